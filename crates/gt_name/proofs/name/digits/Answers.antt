use Rattle.std.proofs.Common.{◌≡◌, rules}
use Rattle.hex.specs.Hex.{encode_lower, IsBytes}
use Rattle.hex.proofs.HexLemmas.{decode_of-encode_lower}
use Rattle.gt_name.proofs.DigitsLemmas.{bad_name-encode_lower}
use Rattle.gt_name.proofs.name.digits.Goals as goal

pub returns-clause-parses : goal.returns-clause-parses
returns-clause-parses c =
    let bytes : IsBytes c.args.bytes.now = λ i. let fits = c.type_inv.bytes i in search rules in
    let written : c.encode_to_slice.new.output ≡ encode_lower c.args.bytes.now = search rules in
    rw written (bad_name-encode_lower c.args.bytes.now c.requires bytes, decode_of-encode_lower c.args.bytes.now bytes)
