use Rattle.std.proofs.Common.{arith, ◌≡◌}
use Rattle.gt_entry.specs.Fits.{IsEntry, HasSpelling}
use Rattle.gt_entry.specs.Spelling.{spelling}
use Rattle.gt_entry.proofs.WholeLemmas.{IsFound, is_found, on_found, is_read}
use Rattle.gt_entry.proofs.decoding.decode_entry.Goals as goal

pub returns-clause-found : goal.returns-clause-found
returns-clause-found c = on_found (IsFound c.args.bytes.now) (λ e. c.args.bytes.now ≡ spelling e) c.read_entry.result (λ e f. f.is) (is_found c.args.bytes.now c.read_entry.result (λ i. omega (arith, c.type_inv.bytes i)) c.read_entry.ensures.value)

pub returns-clause-fits : goal.returns-clause-fits
returns-clause-fits c = on_found (IsFound c.args.bytes.now) HasSpelling c.read_entry.result (λ e f. f.fits) (is_found c.args.bytes.now c.read_entry.result (λ i. omega (arith, c.type_inv.bytes i)) c.read_entry.ensures.value)

pub returns-clause-typed : goal.returns-clause-typed
returns-clause-typed c = on_found (IsFound c.args.bytes.now) IsEntry c.read_entry.result (λ e f. f.typed) (is_found c.args.bytes.now c.read_entry.result (λ i. omega (arith, c.type_inv.bytes i)) c.read_entry.ensures.value)

pub returns-clause-only : goal.returns-clause-only
returns-clause-only c = λ e is may same. is_read c.args.bytes.now c.read_entry.result e is may same c.read_entry.ensures.value
