-- Each file that is read of an applied base was read of the old one, or is new.
use Rattle.std.proofs.Common.{◌≡◌, ℕ, zero, suc, nat_eq, ◌&&◌, ◌||◌, Bool, true, false, cond, List, [], ◌∷◌, ◌++◌, map, None, Result, Ok, refl, sym, ◌∙◌, ap, subst, arith}
use Rattle.std.specs.List.{AllByRecursion, list_any}
use Rattle.std.proofs.lemmas.Bool.Decides.{nat_tests}
use Rattle.gt_ahead.proofs.Asked.{asks_based}
use Rattle.gt_ahead.proofs.Lists.{all_append}
use Rattle.gt_applied.specs.Applied.{Applies, AreWritten}
use Rattle.gt_applied.proofs.Applications.{applied}
use Rattle.gt_apply.specs.Plan.{planned, planned_files}
use Rattle.gt_apply.specs.declared.new_file.NewFile.{NewFile}
use Rattle.gt_base.specs.declared.held.BaseRepo.{BaseRepo}
use Rattle.gt_base.specs.Recovery.{Based, pack_as, pack_in, listed, packed_in, with_name, loose_in, repo_in, based_on}
use Rattle.gt_disk.specs.declared.file_id.FileId.{FileId}
use Rattle.gt_disk.specs.Files.{Files}
use Rattle.gt_disk.specs.Kinds.{pack_file, packed_file, loose_file}
use Rattle.gt_manifest.specs.declared.manifest.Manifest.{Manifest}
use Rattle.gt_manifest.specs.declared.manifest.RepoFiles.{RepoFiles}
use Rattle.gt_model.specs.declared.entry.Entry.{Entry}
use Rattle.gt_pack.specs.Reading.{pack_of}
use Rattle.gt_reading.specs.Reading.{Reading, done, run, asked, file_in, each_in, list_in, one_more}
use Rattle.gt_reading.proofs.Programs.{split, asks_file, gives_file}
use Rattle.gt_reftext.specs.declared.packed_ref.PackedRef.{PackedRef}
use Rattle.gt_reftext.specs.Loose.{value_of}
use Rattle.gt_reftext.specs.Packed.{packed_of}

-- ---- what is read is there

module _ (files : Files) where
  abbrev IsThere : FileId → Type 0
  IsThere f = files f ≡ None → ⊥

  there_file : {A : Type 0} (f : FileId) (grammar : List ℕ → Result A ℕ) (x : A) → run files (file_in f grammar) ≡ Ok x → AllByRecursion IsThere (asked files (file_in f grammar))
  there_file f grammar x is =
      let g = gives_file f grammar files x is in
      subst (AllByRecursion IsThere) (sym (asks_file f grammar files)) ((λ none. absurd (cc (sym g.1 ∙ none))), tt)

  there_each : {A B : Type 0} (read : A → Reading B) → ((x : A) (y : B) → run files (read x) ≡ Ok y → AllByRecursion IsThere (asked files (read x))) → (before : List B) (xs : List A) (ys : List B) → run files (each_in (one_more read) before xs) ≡ Ok ys
      → AllByRecursion IsThere (asked files (each_in (one_more read) before xs))
  there_each read one before [] ys is = tt
  there_each read one before (x ∷ xs) ys is =
      let a = split (one_more read before x) (λ more. each_in (one_more read) more xs) files ys is in
      let b = split (read x) (λ y. done (before ++ y ∷ [])) files a.first a.first_is in
      subst (AllByRecursion IsThere) (sym a.asks) (all_append IsThere (asked files (one_more read before x)) _ (subst (AllByRecursion IsThere) (sym b.asks) (all_append IsThere (asked files (read x)) _ (one x b.first b.first_is) tt)) (there_each read one a.first xs ys a.then_is))

  there_packed : (n : ℕ) (list : List PackedRef) → run files (packed_in n) ≡ Ok list → AllByRecursion IsThere (asked files (packed_in n))
  there_packed zero list is = tt
  there_packed (suc n) list is = there_file (packed_file (suc n)) (λ bytes. listed bytes (packed_of bytes)) list is

  there_repo : (r : RepoFiles) (repo : BaseRepo) → run files (repo_in r) ≡ Ok repo → AllByRecursion IsThere (asked files (repo_in r))
  there_repo r repo is =
      let a = split (list_in pack_in r.packs) _ files repo is in
      let b = split (packed_in r.packed) _ files repo a.then_is in
      let l = split (list_in loose_in r.loose) _ files repo b.then_is in
      let packs = there_each pack_in (λ n p here. there_file (pack_file n) (λ bytes. pack_as n bytes (pack_of bytes)) p here) [] r.packs a.first a.first_is in
      let loose = there_each loose_in (λ x v here. there_file (loose_file x.file) (λ bytes. with_name x.name (value_of bytes)) v here) [] r.loose l.first l.first_is in
      subst (AllByRecursion IsThere) (sym a.asks) (all_append IsThere (asked files (list_in pack_in r.packs)) _ packs
      (subst (AllByRecursion IsThere) (sym b.asks) (all_append IsThere (asked files (packed_in r.packed)) _ (there_packed r.packed b.first b.first_is)
      (subst (AllByRecursion IsThere) (sym l.asks) (all_append IsThere (asked files (list_in loose_in r.loose)) _ loose tt)))))

  there_based : (m : Manifest) (b : Based) → run files (based_on m) ≡ Ok b → AllByRecursion IsThere (asked files (based_on m))
  there_based m b is =
      let l = split (list_in repo_in m.repos) (λ repos. done (record { manifest = m; repos = repos })) files b is in
      subst (AllByRecursion IsThere) (sym l.asks) (all_append IsThere (asked files (list_in repo_in m.repos)) _ (there_each repo_in there_repo [] m.repos l.first l.first_is) tt)

-- ---- a file less

abbrev is_file : FileId → FileId → Bool
is_file f g = nat_eq f.kind g.kind && nat_eq f.number g.number

file_is : (f g : FileId) → is_file f g ≡ true → f ≡ g
file_is f g is =
    let kind : f.kind ≡ g.kind = grind (arith, nat_tests) in
    let number : f.number ≡ g.number = grind (arith, nat_tests) in
    λ i. record { kind = kind i; number = number i }

is_itself : (f : FileId) → is_file f f ≡ true
is_itself f = grind (arith, nat_tests)

-- the files without this one
abbrev without : FileId → Files → Files
without f files g = cond (is_file f g) None (files g)

without_it : (f : FileId) (files : Files) → without f files f ≡ None
without_it f files = ap (λ (b : Bool). cond b None (files f)) (is_itself f)

without_other : (f g : FileId) (files : Files) → is_file f g ≡ false → without f files g ≡ files g
without_other f g files is = ap (λ (b : Bool). cond b None (files g)) is

-- it is one of these, or none of these is it
among : (P : FileId → Type 0) (f : FileId) (fs : List FileId) → AllByRecursion P fs → list_any (is_file f) fs ≡ true → P f
among P f [] all is = absurd (cc is)
among P f (g ∷ fs) all is = by (is_file f g) refl is (among P f fs all.1)
  where
    by : (b : Bool) → is_file f g ≡ b → (b || list_any (is_file f) fs) ≡ true → (list_any (is_file f) fs ≡ true → P f) → P f
    by true here is rest = subst P (sym (file_is f g here)) all.0
    by false here is rest = rest is

same_without : (f : FileId) (fs : List FileId) (a b : Files) → list_any (is_file f) fs ≡ false → AllByRecursion (λ g. b g ≡ a g) fs → AllByRecursion (λ g. without f b g ≡ a g) fs
same_without f [] a b is all = tt
same_without f (g ∷ fs) a b is all = by (is_file f g) refl is (λ rest. same_without f fs a b rest all.1)
  where
    by : (t : Bool) → is_file f g ≡ t → (t || list_any (is_file f) fs) ≡ false → (list_any (is_file f) fs ≡ false → AllByRecursion (λ h. without f b h ≡ a h) fs) → AllByRecursion (λ h. without f b h ≡ a h) (g ∷ fs)
    by true here is rest = absurd (cc is)
    by false here is rest = (without_other f g b here ∙ all.0, rest is)

abbrev files_of : List NewFile → List FileId
files_of news = map (λ n. n.file) news

written_without : (f : FileId) (news : List NewFile) (b : Files) → list_any (is_file f) (files_of news) ≡ false → AreWritten b news → AreWritten (without f b) news
written_without f [] b is all = tt
written_without f (n ∷ news) b is all = by (is_file f n.file) refl is (λ rest. written_without f news b rest all.1)
  where
    by : (t : Bool) → is_file f n.file ≡ t → (t || list_any (is_file f) (files_of news)) ≡ false → (list_any (is_file f) (files_of news) ≡ false → AreWritten (without f b) news) → AreWritten (without f b) (n ∷ news)
    by true here is rest = absurd (cc is)
    by false here is rest = (without_other f n.file b here ∙ all.0, rest is)

all_files : (P : FileId → Type 0) (news : List NewFile) → AllByRecursion (λ n. P n.file) news → AllByRecursion P (files_of news)
all_files P [] all = tt
all_files P (n ∷ news) all = (all.0, all_files P news all.1)

-- ---- the files of an applied base

module _ (from : Based) (next : ℕ) (entries : List Entry) (a b : Files) (applies : Applies from next entries a b) where
  abbrev pub to : Manifest
  to = planned from.manifest next entries

  -- one that is neither could be gone, and would be read still
  known_one : (P : FileId → Type 0) → AllByRecursion P (asked a (based_on from.manifest)) → AllByRecursion P (files_of (planned_files next entries)) → (f : FileId) → list_any (is_file f) (asked b (based_on to)) ≡ true → P f
  known_one P olds news f read = by (list_any (is_file f) (asked a (based_on from.manifest))) refl (list_any (is_file f) (files_of (planned_files next entries))) refl
    where
      by : (one : Bool) → list_any (is_file f) (asked a (based_on from.manifest)) ≡ one → (two : Bool) → list_any (is_file f) (files_of (planned_files next entries)) ≡ two → P f
      by true one two_is two = among P f (asked a (based_on from.manifest)) olds one
      by false one true two = among P f (files_of (planned_files next entries)) news two
      by false one false two =
          let less : Applies from next entries a (without f b) = record {
            based = applies.based;
            fits = applies.fits;
            legal = applies.legal;
            typed = applies.typed;
            built = applies.built;
            spelled = applies.spelled;
            same = same_without f (asked a (based_on from.manifest)) a b one applies.same;
            written = written_without f (planned_files next entries) b two applies.written;
          } in
          let r = applied from next entries a (without f b) less in
          let here = applied from next entries a b applies in
          let asks : asked (without f b) (based_on to) ≡ asked b (based_on to) = asks_based (without f b) to r.0 r.1 ∙ sym (asks_based b to here.0 here.1) in
          let there = there_based (without f b) to r.0 r.1 in
          absurd (among (λ g. without f b g ≡ None → ⊥) f (asked b (based_on to)) (subst (AllByRecursion (λ g. without f b g ≡ None → ⊥)) asks there) read (without_it f b))

  behind : (x y : Bool) → y ≡ true → (x || y) ≡ true
  behind true y is = refl
  behind false y is = is

  each : (P : FileId → Type 0) (fs : List FileId) → ((f : FileId) → list_any (is_file f) fs ≡ true → P f) → AllByRecursion P fs
  each P [] one = tt
  each P (f ∷ fs) one = (one f (ap (λ (b : Bool). b || list_any (is_file f) fs) (is_itself f)), each P fs (λ g is. one g (behind (is_file g f) (list_any (is_file g) fs) is)))

  pub known_files : (P : FileId → Type 0) → AllByRecursion P (asked a (based_on from.manifest)) → AllByRecursion (λ n. P n.file) (planned_files next entries) → AllByRecursion P (asked b (based_on to))
  known_files P olds news = each P (asked b (based_on to)) (λ f is. known_one P olds (all_files P (planned_files next entries) news) f is)
