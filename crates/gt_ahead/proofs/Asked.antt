-- What was loaded tells by which files.
use Rattle.std.proofs.Common.{◌≡◌, ℕ, zero, suc, ◌+◌, ◌≤◌, ◌==◌, not, nat_lt, ◌&&◌, Bool, true, false, cond, List, [], ◌∷◌, ◌++◌, Some, None, Result, Ok, Err, refl, sym, ◌∙◌, ap, ap₂, subst, arith}
use Rattle.std.proofs.lemmas.Bool.Decides.{nat_tests}
use Rattle.std.proofs.lemmas.List.{append-nil}
use Rattle.std.proofs.lemmas.List.Concat.{flat_map_single}
use Rattle.std.specs.List.{flat_map}
use Rattle.gt_bytes.proofs.Steps.{kept_ok}
use Rattle.gt_disk.specs.declared.file_id.FileId.{FileId}
use Rattle.gt_disk.specs.Files.{Content as FileContent, Files}
use Rattle.gt_disk.specs.Kinds.{gate_file, turn_file, manifest_file, entry_file, pack_file, packed_file, loose_file}
use Rattle.gt_entry.specs.Reading.{entry_of as entry_spelled}
use Rattle.gt_log.specs.Log.{content_length}
use Rattle.gt_manifest.specs.declared.manifest.Loose.{Loose}
use Rattle.gt_manifest.specs.declared.manifest.RepoFiles.{RepoFiles}
use Rattle.gt_manifest.specs.declared.manifest.Manifest.{Manifest}
use Rattle.gt_manifest.specs.Whole.{manifest_of}
use Rattle.gt_model.specs.declared.entry.Entry.{Entry}
use Rattle.gt_model.specs.declared.limits.Limits.{Limits}
use Rattle.gt_model.specs.Contents.{Content, after, fits}
use Rattle.gt_pack.specs.Reading.{pack_of}
use Rattle.gt_reading.specs.Reading.{Reading, done, run, asked, ◌>>=◌, parsed, each_in, list_in, one_more}
use Rattle.gt_reading.proofs.Programs.{split, asks_file, gives_file}
use Rattle.gt_reftext.specs.Loose.{value_of}
use Rattle.gt_reftext.specs.Packed.{packed_of}
use Rattle.gt_base.specs.Built.{is_built}
use Rattle.gt_base.specs.Entries.{fitting, entry_of, entry_in, entries_in}
use Rattle.gt_base.specs.Spelling.{exactly, placed, decode}
use Rattle.gt_base.specs.Recovery.{Based, Loaded, pack_as, pack_in, listed, packed_in, with_name, loose_in, repo_in, first_manifest, checked, manifest_in, based_on, base_in, counted, recovery, files_by}
use Rattle.gt_base.specs.declared.held.BaseRepo.{BaseRepo}
use Rattle.gt_ahead.specs.Files.{manifest_files, packed_files, repo_files, base_files, log_files, data_files_of, files_of}
use Rattle.gt_ahead.proofs.Parts.{base_parts, parts_of}

module _ (files : Files) where
  -- ---- lists

  asks_each : {A B : Type 0} (read : A → Reading B) (fs : A → List FileId) → ((a : A) (b : B) → run files (read a) ≡ Ok b → asked files (read a) ≡ fs a)
      → (before : List B) (xs : List A) (ys : List B) → run files (each_in (one_more read) before xs) ≡ Ok ys → asked files (each_in (one_more read) before xs) ≡ flat_map fs xs
  asks_each read fs one before [] ys is = refl
  asks_each read fs one before (x ∷ xs) ys is =
      let s = split (one_more read before x) (λ more. each_in (one_more read) more xs) files ys is in
      let a = split (read x) (λ y. done (before ++ y ∷ [])) files s.first s.first_is in
      s.asks ∙ ap₂ (λ (p q : List FileId). p ++ q) (a.asks ∙ append-nil (asked files (read x)) ∙ one x a.first a.first_is) (asks_each read fs one s.first xs ys s.then_is)

  -- ---- a repository

  asks_packed : (n : ℕ) → asked files (packed_in n) ≡ packed_files n
  asks_packed zero = refl
  asks_packed (suc n) = asks_file (packed_file (suc n)) (λ bytes. listed bytes (packed_of bytes)) files

  asks_repo : (r : RepoFiles) (repo : BaseRepo) → run files (repo_in r) ≡ Ok repo → asked files (repo_in r) ≡ repo_files r
  asks_repo r repo is =
      let packs = split (list_in pack_in r.packs) _ files repo is in
      let packed = split (packed_in r.packed) _ files repo packs.then_is in
      let loose = split (list_in loose_in r.loose) _ files repo packed.then_is in
      packs.asks
      ∙ ap₂ (λ (p q : List FileId). p ++ q)
      (asks_each pack_in (λ n. pack_file n ∷ []) (λ n p h. asks_file (pack_file n) (λ bytes. pack_as n bytes (pack_of bytes)) files) [] r.packs packs.first packs.first_is ∙ flat_map_single pack_file r.packs)
      (packed.asks ∙ ap₂ (λ (p q : List FileId). p ++ q) (asks_packed r.packed)
      (loose.asks ∙ append-nil (asked files (list_in loose_in r.loose))
      ∙ asks_each loose_in (λ l. loose_file l.file ∷ []) (λ l v h. asks_file (loose_file l.file) (λ bytes. with_name l.name (value_of bytes)) files) [] r.loose loose.first loose.first_is
      ∙ flat_map_single (λ (l : Loose). loose_file l.file) r.loose))

  pub asks_based : (m : Manifest) (b : Based) → run files (based_on m) ≡ Ok b → asked files (based_on m) ≡ flat_map repo_files m.repos
  asks_based m b is =
      let repos = split (list_in repo_in m.repos) _ files b is in
      repos.asks ∙ append-nil (asked files (list_in repo_in m.repos)) ∙ asks_each repo_in repo_files asks_repo [] m.repos repos.first repos.first_is

  -- ---- the manifest

  pub checked_is : (epoch gate : ℕ) (read : Result Manifest ℕ) (m : Manifest) → checked epoch gate read ≡ Ok m → (read ≡ Ok m) × (m.epoch ≡ epoch) × (m.applied ≤ gate)
  checked_is epoch gate (Err at) m is = absurd (cc (is))
  checked_is epoch gate (Ok x) m is = by (x.epoch == epoch) refl (nat_lt gate x.applied) refl is
    where
      by : (a : Bool) → (x.epoch == epoch) ≡ a → (b : Bool) → nat_lt gate x.applied ≡ b → cond {A = Result Manifest ℕ} (not a) (Err 4) (cond {A = Result Manifest ℕ} b (Err 12) (Ok x)) ≡ Ok m
          → (◌≡◌ {A = Result Manifest ℕ} (Ok x) (Ok m)) × (m.epoch ≡ epoch) × (m.applied ≤ gate)
      by false one b two is = absurd (cc (is))
      by true one true two is = absurd (cc (is))
      by true one false two is =
          let same : x ≡ m = cc (is) in
          let here : x.epoch ≡ epoch = grind (arith, nat_tests) in
          let within : x.applied ≤ gate = grind (arith, nat_tests) in
          (is, sym (ap (λ (y : Manifest). y.epoch) same) ∙ here, subst (λ (y : Manifest). y.applied ≤ gate) same within)

  pub record ManifestRead (epoch gate : ℕ) (m : Manifest) : Type 0 where
    pub asks : asked files (manifest_in epoch gate) ≡ manifest_files m.epoch
    pub epoch_is : m.epoch ≡ epoch
    pub within : m.applied ≤ gate

  pub manifest_read : (epoch gate : ℕ) (m : Manifest) → run files (manifest_in epoch gate) ≡ Ok m → ManifestRead epoch gate m
  manifest_read zero gate m is =
      let same : first_manifest ≡ m = cc (is) in
      let epoch_is : 0 ≡ m.epoch = ap (λ (y : Manifest). y.epoch) same in
      record { asks = ap manifest_files epoch_is; epoch_is = sym epoch_is; within = omega (arith, ap (λ (y : Manifest). y.applied) same) }
  manifest_read (suc n) gate m is =
      let g = gives_file (manifest_file (suc n)) (λ bytes. checked (suc n) gate (manifest_of bytes)) files m is in
      let c = checked_is (suc n) gate (manifest_of g.0) m g.2 in
      record {
        asks = asks_file (manifest_file (suc n)) (λ bytes. checked (suc n) gate (manifest_of bytes)) files ∙ ap manifest_files (sym c.1);
        epoch_is = c.1;
        within = c.2;
      }

  pub asks_base : (epoch gate : ℕ) (b : Based) → run files (base_in epoch gate) ≡ Ok b → asked files (base_in epoch gate) ≡ base_files b.manifest
  asks_base epoch gate b is =
      let p = base_parts files epoch gate b is in
      p.asks ∙ ap₂ (λ (p q : List FileId). p ++ q) (manifest_read epoch gate b.manifest p.manifest).asks (asks_based b.manifest b p.based)

  -- ---- entries

  fitted : (c : Content) (o : Result Entry ℕ) (e : Entry) → fitting c o ≡ Ok e → o ≡ Ok e
  fitted c (Err at) e is = absurd (cc (is))
  fitted c (Ok x) e is = ap Ok (kept_ok (is_built x.change && fits c x) 0 x e is).1

  placed_at : (position : ℕ) (o : Result Entry ℕ) (e : Entry) → placed position o ≡ Ok e → e.position ≡ position
  placed_at position (Err at) e is = absurd (cc (is))
  placed_at position (Ok x) e is =
      let k = kept_ok (x.position == position) 4 x e is in
      let test : (x.position == position) ≡ true = k.0 in
      let here : x.position ≡ position = grind (arith, nat_tests) in
      sym (ap (λ (y : Entry). y.position) k.1) ∙ here

  decoded_at : (position : ℕ) (content : FileContent) (e : Entry) → decode position content ≡ Ok e → e.position ≡ position
  decoded_at position None e is = absurd (cc (is))
  decoded_at position (Some bytes) e is = placed_at position (exactly bytes (entry_spelled bytes)) e is

  ends : (f : FileId) (o : Result Entry ℕ) → asked files (parsed f o) ≡ []
  ends f (Ok e) = refl
  ends f (Err at) = refl

  read_is : (f : FileId) (o : Result Entry ℕ) (e : Entry) → run files (parsed f o) ≡ Ok e → o ≡ Ok e
  read_is f (Ok x) e is = let same : x ≡ e = cc (is) in ap Ok same
  read_is f (Err at) e is = absurd (cc (is))

  pub entry_placed : (c : Content) (position : ℕ) (e : Entry) → run files (entry_in c position) ≡ Ok e → e.position ≡ position
  entry_placed c position e is =
      decoded_at position (files (entry_file position)) e (fitted c (decode position (files (entry_file position))) e (read_is (entry_file position) (entry_of (files (entry_file position)) c position) e is))

  asks_entry : (c : Content) (position : ℕ) (e : Entry) → run files (entry_in c position) ≡ Ok e → asked files (entry_in c position) ≡ entry_file e.position ∷ []
  asks_entry c position e is =
      ap (λ (fs : List FileId). entry_file position ∷ fs) (ends (entry_file position) (entry_of (files (entry_file position)) c position))
      ∙ ap (λ (n : ℕ). entry_file n ∷ []) (sym (entry_placed c position e is))

  pub asks_entries : (c : Content) (position more : ℕ) (log : List Entry) → run files (entries_in c position more) ≡ Ok log → asked files (entries_in c position more) ≡ log_files log
  asks_entries c position zero log is = let none : [] ≡ log = cc (is) in ap log_files none
  asks_entries c position (suc more) log is =
      let e = split (entry_in c position) (λ e. entries_in (after c e) (position + 1) more >>= λ es. done (e ∷ es)) files log is in
      let rest = split (entries_in (after c e.first) (position + 1) more) (λ es. done (e.first ∷ es)) files log e.then_is in
      let same : e.first ∷ rest.first ≡ log = cc (rest.then_is) in
      e.asks
      ∙ ap₂ (λ (p q : List FileId). p ++ q) (asks_entry c position e.first e.first_is)
      (rest.asks ∙ append-nil (asked files (entries_in (after c e.first) (position + 1) more)) ∙ asks_entries (after c e.first) (position + 1) more rest.first rest.first_is)
      ∙ ap log_files same

  -- ---- the whole

  pub asks_counted : (limits : Limits) (epoch gate : ℕ) (x : Loaded) → run files (counted limits epoch gate) ≡ Ok x → asked files (counted limits epoch gate) ≡ data_files_of x
  asks_counted limits epoch gate x is =
      let p = parts_of limits files epoch gate x is in
      p.asks
      ∙ ap₂ (λ (p q : List FileId). p ++ q) (asks_base epoch gate x.base p.base)
      (asks_entries _ (x.base.manifest.applied + 1) _ x.log p.log)

pub loaded_by : (limits : Limits) (files : Files) (x : Loaded) → run files (recovery limits) ≡ Ok x → files_by limits files ≡ files_of x
loaded_by limits files x is = ap (λ (fs : List FileId). gate_file ∷ turn_file ∷ fs) (asks_counted files limits (content_length (files turn_file)) (content_length (files gate_file)) x is)
