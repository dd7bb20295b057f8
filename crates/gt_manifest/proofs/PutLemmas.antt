-- What may stand in a list may be written.
use Rattle.std.proofs.Common.{◌≡◌, ℕ, ◌+◌, ◌^◌, ◌<◌, take, List, [], ◌∷◌, ◌++◌, length, get_or, All, sym, ap, ◌∙◌, append_assoc}
use Rattle.std.specs.List.{AllByRecursion, flat_map}
use Rattle.std.proofs.lemmas.List.{take_more, append-nil}
use Rattle.std.proofs.lemmas.List.Concat.{flat_map-cons, flat_map-append}
use Rattle.std.proofs.lemmas.List.Elements.{All-from_recursion}
use Rattle.gt_bytes.specs.Spelling.{Follows}
use Rattle.gt_manifest.specs.declared.manifest.Loose.{Loose}
use Rattle.gt_manifest.specs.declared.manifest.RepoFiles.{RepoFiles}
use Rattle.gt_manifest.specs.declared.version.Version.TheVariants.{Second}
use Rattle.gt_manifest.specs.Spelling.{IsNumber, MayLoose, MayRepo, MayPut, AreNumbers, AreLoose}

each : {A : Type 0} (Allowed : List A → A → Type 0) (P : A → Type 0) → ((front : List A) (x : A) → Allowed front x → P x) → (front xs : List A) → Follows Allowed front xs → AllByRecursion P xs
each Allowed P h front [] f = tt
each Allowed P h front (x ∷ xs) f = (h front x f.0, each Allowed P h (front ++ x ∷ []) xs f.1)

pub numbers_put : (ns : List ℕ) → AreNumbers ns → All (λ n. n < 2 ^ 64) ns
numbers_put ns a = All-from_recursion (λ n. n < 2 ^ 64) ns (each (λ before n. IsNumber n) (λ n. n < 2 ^ 64) (λ front n m. m) [] ns a.1)

pub loose_put : (ls : List Loose) → AreLoose ls → All (λ l. length l.name < 2 ^ 16) ls
loose_put ls a = All-from_recursion (λ l. length l.name < 2 ^ 16) ls (each MayLoose (λ l. length l.name < 2 ^ 16) (λ front l m. m.0.0.0) [] ls a.1)

pub repos_put : (applied : ℕ) (rs : List RepoFiles) → Follows (MayRepo Second applied) [] rs → All MayPut rs
repos_put applied rs f = All-from_recursion MayPut rs (each (MayRepo Second applied) MayPut (λ front r m. (m.0.0.0, (m.0.1.1, m.1.0))) [] rs f)

-- three parts, one after the other
pub three : (o a b c x y z : List ℕ) → x ≡ o ++ a → y ≡ x ++ b → z ≡ y ++ c → z ≡ o ++ (a ++ (b ++ c))
three o a b c x y z p q r =
    r ∙ ap (λ (t : List ℕ). t ++ c) (q ∙ ap (λ (t : List ℕ). t ++ b) p ∙ append_assoc o a b) ∙ append_assoc o (a ++ b) c ∙ ap (λ (t : List ℕ). o ++ t) (append_assoc a b c)

-- the spelling of one item more
pub one_more : {A : Type 0} (s : A → List ℕ) (xs : List A) (i : ℕ) (x : A) (o y z : List ℕ) → i < length xs → x ≡ get_or xs i x → y ≡ o ++ flat_map s (take i xs) → z ≡ y ++ s x → z ≡ o ++ flat_map s (take (i + 1) xs)
one_more {A} s xs i x o y z lt is so_far put =
    let whole : take (i + 1) xs ≡ take i xs ++ x ∷ [] = take_more xs i x lt ∙ ap (λ (a : A). take i xs ++ a ∷ []) (sym is) in
    let last : flat_map s (x ∷ []) ≡ s x = flat_map-cons s x [] ∙ append-nil (s x) in
    let more : flat_map s (take (i + 1) xs) ≡ flat_map s (take i xs) ++ s x = ap (flat_map s) whole ∙ flat_map-append s (take i xs) (x ∷ []) ∙ ap (λ (t : List ℕ). flat_map s (take i xs) ++ t) last in
    put ∙ ap (λ (t : List ℕ). t ++ s x) so_far ∙ append_assoc o (flat_map s (take i xs)) (s x) ∙ ap (λ (t : List ℕ). o ++ t) (sym more)
