-- Each name that a base has is placed, and no other.
use Rattle.std.proofs.Common.{◌≡◌, ℕ, Bool, true, false, ◌||◌, is_some, List, [], ◌∷◌, fold, Option, Some, None, refl, sym, ap, ◌∙◌}
use Rattle.std.specs.FinMap as map
use Rattle.std.specs.FinMap.{get-empty}
use Rattle.std.specs.Option.{option_map, option_or}
use Rattle.gt_model.specs.Contents.{key_cmp, Names, Repo, and_then, union}
use Rattle.gt_objset.specs.Agree.{ArePlaced}
use Rattle.gt_objset.proofs.ContentLaws.{get-union}
use Rattle.gt_pack.specs.Index.{find_in}
use Rattle.gt_base.specs.declared.held.BaseRepo.{BaseRepo}
use Rattle.gt_base.specs.Held.{items_of, records_of, own_of, to_place, place_in, place_of, repo_of, repo_at, content_of, places_of}
use Rattle.gt_base.specs.Packs.{PackFile}
use Rattle.gt_base.proofs.Finding.{get-content_of, cut, record_in}

-- a found place and what is made of it are there together
both_made : {A B C : Type 0} (f : A → B) (g : A → C) (o : Option A) → is_some (option_map f o) ≡ is_some (option_map g o)
both_made f g None = refl
both_made f g (Some a) = refl

in_pack : (p : PackFile) (x : List ℕ) → is_some (map.get (records_of p) x) ≡ is_some (place_in p x)
in_pack p x = ap is_some (record_in p x) ∙ both_made (cut p.bytes) (to_place p.number) (find_in (items_of p) x)

is_some-or : {A : Type 0} (o p : Option A) → is_some (option_or o p) ≡ (is_some o || is_some p)
is_some-or None p = refl
is_some-or (Some a) p = refl

or_assoc : (a b c : Bool) → ((a || b) || c) ≡ (a || (b || c))
or_assoc true b c = refl
or_assoc false b c = refl

-- over what was there before these packs
in_packs : (packs : List PackFile) (m : Names) (x : List ℕ) → is_some (map.get (fold (λ own p. union own (records_of p)) m packs) x) ≡ (is_some (map.get m x) || is_some (place_of packs x))
in_packs [] m x = by (is_some (map.get m x))
  where
    by : (b : Bool) → b ≡ (b || false)
    by true = refl
    by false = refl
in_packs (p ∷ packs) m x =
    in_packs packs (union m (records_of p)) x
    ∙ ap (λ o. is_some o || is_some (place_of packs x)) (get-union m (records_of p) x)
    ∙ ap (λ b. b || is_some (place_of packs x)) (is_some-or (map.get m x) (map.get (records_of p) x))
    ∙ ap (λ b. (is_some (map.get m x) || b) || is_some (place_of packs x)) (in_pack p x)
    ∙ or_assoc (is_some (map.get m x)) (is_some (place_in p x)) (is_some (place_of packs x))
    ∙ ap (λ b. is_some (map.get m x) || b) (sym (is_some-or (place_in p x) (place_of packs x)))

own_placed : (packs : List PackFile) (x : List ℕ) → is_some (map.get (own_of packs) x) ≡ is_some (place_of packs x)
own_placed packs x = in_packs packs map.empty x ∙ ap (λ o. is_some o || is_some (place_of packs x)) (get-empty key_cmp x)

pub base_placed : (repos : List BaseRepo) → ArePlaced (content_of repos) (places_of repos)
base_placed repos path x = sym (ap (λ o. is_some (and_then o (λ (r : Repo). map.get r.own x))) (get-content_of repos path) ∙ by (repo_at repos path))
  where
    by : (o : Option BaseRepo) → is_some (and_then (option_map repo_of o) (λ r. map.get r.own x)) ≡ is_some (and_then o (λ r. place_of r.packs x))
    by None = refl
    by (Some r) = own_placed r.packs x
