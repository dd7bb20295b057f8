use Rattle.std.proofs.Common.{◌^◌}
use Rattle.std.specs.Int.{w16, w32, w64}
use Rattle.gt_bytes.proofs.FieldLaws.{number_field, byte_field, name_field, text_field, wide16, wide32, wide64}
use Rattle.gt_bytes.proofs.laws.fields_are_exact.Goals as goal

pub returns : goal.returns
returns c = λ bytes. record {
  of_u8 = byte_field bytes;
  of_u16 = number_field bytes w16 (2 ^ 16) wide16;
  of_u32 = number_field bytes w32 (2 ^ 32) wide32;
  of_u64 = number_field bytes w64 (2 ^ 64) wide64;
  of_name = name_field bytes;
  of_text = text_field bytes;
}
