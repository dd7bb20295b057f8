use Rattle.std.proofs.Common.{◌∙◌, ◌≡◌, Some, List, ℕ, subst}
use Rattle.std.proofs.lemmas.List.Elements.{All-same, All-head, All-rest}
use Rattle.std.proofs.lemmas.Map.Iter.{rest_more, rest_all}
use Rattle.std.specs.List.{All}
use Rattle.std.specs.Map.Iter.{deref_pair}
use Rattle.gt_versions.proofs.Keys.{at_key}
use Rattle.gt_table.proofs.SeedLaws.{NamesLeft, names_began, names_more, names_done}
use Rattle.gt_table.proofs.seeding.seed_names.Goals as goal

pub loop-name-init : goal.loop-name-init
loop-name-init c =
    let is = c.into_iter-name-iterator.ensures.into_iter_gives ∙ c.iter-name-items.ensures.rest in
    record {
      left = names_began c.args.path.now c.args.names.now.entries c.into_iter-name-iterator.result c.args.refs.now is c.requires.none;
      found = All-same (λ e. at_key c.args.names.now.entries e.0 ≡ Some e.1) c.into_iter-name-iterator.result c.args.names.now.entries is c.iter-name-items.ensures.found;
    }

pub loop-name-preserved : goal.loop-name-preserved
loop-name-preserved c =
    let all = c.args.names.now.entries in
    let path = c.args.path.now in
    let k = c.in-Some.name.now in
    let v = c.in-Some.value.now in
    let rest = c.next.new.self in
    let step = rest_more deref_pair c.loop-name.name-iterator rest c.next.result (c.in-Some.name, c.in-Some.value) c.in-Some.is c.next.ensures.steps in
    let P : List (List ℕ × List ℕ) → Type 0 = λ l. NamesLeft path all l c.args.refs.now c.loop-name.refs in
    record {
      left = names_more path k v all rest c.args.refs.now c.loop-name.refs c.seed.new.self
          (All-head (λ e. at_key all e.0 ≡ Some e.1) (k, v) rest (subst (All (λ (e : List ℕ × List ℕ). at_key all e.0 ≡ Some e.1)) step c.loop-name.invariant.found))
          (subst P step c.loop-name.invariant.left) c.in_default.ensures.ok;
      found = All-rest (λ e. at_key all e.0 ≡ Some e.1) (k, v) rest c.loop-name.name-iterator step c.loop-name.invariant.found;
    }

pub returns : goal.returns
returns c = names_done c.args.path.now c.args.names.now.entries c.loop-name.name-iterator c.args.refs.now c.loop-name.refs (rest_all deref_pair c.loop-name.name-iterator c.next.new.self c.next.result c.in-None.is c.next.ensures.steps) c.loop-name.invariant.left
