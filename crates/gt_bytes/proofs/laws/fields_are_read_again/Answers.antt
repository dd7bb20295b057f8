use Rattle.std.proofs.Common.{◌≡◌, ◌^◌, ◌<◌, [], ◌∷◌, length}
use Rattle.std.specs.Int.{w16, w32, w64, to_be_bytes}
use Rattle.gt_bytes.specs.Spelling.{text}
use Rattle.gt_bytes.specs.Reading.{byte_at, number_at, name_at, text_at}
use Rattle.gt_bytes.proofs.FieldLaws.{field_again, number_field, byte_field, name_field, text_field, wide16, wide32, wide64}
use Rattle.gt_bytes.proofs.laws.fields_are_read_again.Goals as goal

pub returns : goal.returns
returns c = record {
  of_u8 = field_again byte_at (λ b. b ∷ []) (λ b. b < 256) byte_field;
  of_u16 = field_again (number_at w16) (to_be_bytes w16) (λ n. n < 2 ^ 16) (λ bytes. number_field bytes w16 (2 ^ 16) wide16);
  of_u32 = field_again (number_at w32) (to_be_bytes w32) (λ n. n < 2 ^ 32) (λ bytes. number_field bytes w32 (2 ^ 32) wide32);
  of_u64 = field_again (number_at w64) (to_be_bytes w64) (λ n. n < 2 ^ 64) (λ bytes. number_field bytes w64 (2 ^ 64) wide64);
  of_name = field_again name_at (λ x. x) (λ x. length x ≡ 20) name_field;
  of_text = field_again text_at text (λ x. length x < 2 ^ 16) text_field;
}
