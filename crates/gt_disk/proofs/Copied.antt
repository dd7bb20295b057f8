-- A copy of files has the same files.
use Rattle.std.proofs.Common.{◌≡◌, ℕ, Bool, true, false, cond, List, [], ◌∷◌, Some, Vec, refl, ◌∙◌, ap}
use Rattle.std.specs.declared.alloc.Global.{Global}
use Rattle.std.specs.List.{AllZip, each_same}
use Rattle.std.specs.Map.{lookup}
use Rattle.std.specs.Vec.{vec_len}
use Rattle.gt_disk.specs.declared.file_id.FileId.{FileId}
use Rattle.gt_disk.specs.Calls.{content}

abbrev pub File : Type 0
File = FileId × Vec ℕ Global

abbrev pub IsCopy : File → File → Type 0
IsCopy f g = (g.0 ≡ f.0) × (AllZip (λ (x y : ℕ). y ≡ x) f.1.items g.1.items × (vec_len g.1 ≡ vec_len f.1))

pub copied : (test : FileId → Bool) (xs ys : List File) → AllZip IsCopy xs ys → content (lookup test ys) ≡ content (lookup test xs)
copied test [] [] zip = refl
copied test [] (y ∷ ys) zip = absurd zip
copied test (x ∷ xs) [] zip = absurd zip
copied test (x ∷ xs) (y ∷ ys) zip =
    ap (λ (f : FileId). content (cond (test f) (Some y.1) (lookup test ys))) zip.0.0 ∙ by (test x.0) (copied test xs ys zip.1)
  where
    by : (b : Bool) → content (lookup test ys) ≡ content (lookup test xs) → content (cond b (Some y.1) (lookup test ys)) ≡ content (cond b (Some x.1) (lookup test xs))
    by true rest = ap Some (each_same x.1.items y.1.items zip.0.1.0)
    by false rest = rest
