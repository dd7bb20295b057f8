use Rattle.std.proofs.Common.{◌≡◌, ℕ, List, ◌++◌, length, sym, ◌∙◌, ap, arith, subst}
use Rattle.std.specs.List.{flat_map, AllByRecursion}
use Rattle.std.proofs.lemmas.Bool.{ltb-false, le-ltb}
use Rattle.std.proofs.lemmas.List.{append-nil, drop_all}
use Rattle.gt_bytes.specs.Standing.{Stands}
use Rattle.gt_bytes.proofs.WhileLaws.{Run, while_takes, while_again}
use Rattle.gt_object.specs.Trees.{TreeEntry, IsTreeEntry, tree_entry, entry_at, more_entries, tree_entries}
use Rattle.gt_object.proofs.TreeLaws.{entry_field, entry_some, entry_more}
use Rattle.gt_object.proofs.laws.trees_are_entries.Goals as goal

stands_all : (c t : List ℕ) → c ≡ t → Stands c 0 t (length c)
stands_all c t e = record { parts = e ∙ sym (append-nil t) ∙ ap (λ (x : List ℕ). t ++ x) (sym (drop_all (length c) c (omega arith))); after = omega (arith, ap length e); within = omega arith }

is_all : (c t : List ℕ) → Stands c 0 t (length c) → c ≡ t
is_all c t s = s.parts ∙ ap (λ (x : List ℕ). t ++ x) (drop_all (length c) c (omega arith)) ∙ append-nil t

takes : (c : List ℕ) (es : List TreeEntry) (next : ℕ) → Run c (more_entries c) (entry_at c) tree_entry IsTreeEntry (entry_field c) 0 es next → (c ≡ flat_map tree_entry es) × AllByRecursion IsTreeEntry es
takes c es next run =
    let end : next ≡ length c = omega (arith, ltb-false _ _ run.ends, run.stands.within) in
    let P : ℕ → Type 0 = λ n. Stands c 0 (flat_map tree_entry es) n in
    (is_all c (flat_map tree_entry es) (subst P end run.stands), run.fit)

pub returns : goal.returns
unfolding tree_entries
returns c = λ b es good. (
  λ h. (let u = while_takes b (more_entries b) (entry_at b) tree_entry IsTreeEntry (entry_field b) good (length b) 0 es (omega arith) h in takes b es u.0 u.1),
  λ p. while_again b (more_entries b) (entry_at b) tree_entry IsTreeEntry (entry_field b) entry_some (entry_more b) es (length b) 0 (length b) (omega arith) (omega arith) (record { stands = stands_all b (flat_map tree_entry es) p.0; fit = p.1; ends = le-ltb _ _ (omega arith) }),
)
