-- The file numbers of one repository: what each step of a plan makes of them.
use Rattle.std.proofs.Common.{◌≡◌, ◌⊎◌, inl, inr, ⊎_elim, ℕ, ◌+◌, ◌<◌, ◌≤◌, Bool, true, false, cond, List, [], ◌∷◌, ◌++◌, length, Option, Some, None, nat_le, refl, sym, ap, subst, ◌∙◌, filter, fold, flat_map, map as map_list, arith, length-append}
use Rattle.std.specs.Option.{option_map}
use Rattle.std.specs.Prelude.{◌==◌}
use Rattle.std.specs.declared.cmp.Ordering.{Ordering}
use Rattle.std.specs.declared.cmp.Ordering.TheVariants.{Less, Equal, Greater}
use Rattle.std.specs.Cmp.Lexicographic.{nat_list_cmp_total}
use Rattle.std.specs.FinMap as map
use Rattle.std.specs.FinMap.{put, entries-insert, len-empty, len-entries}
use Rattle.std.specs.FinMap.Entries.{by_order}
use Rattle.gt_manifest.specs.declared.manifest.Loose.{Loose}
use Rattle.gt_manifest.specs.declared.manifest.RepoFiles.{RepoFiles}
use Rattle.gt_manifest.specs.Whole.{packed_number, file_of, file_numbers}
use Rattle.gt_model.specs.Batches as batch
use Rattle.gt_model.specs.Batches.{is_deletion, files_of}
use Rattle.gt_model.specs.Contents.{key_cmp}
use Rattle.gt_model.specs.declared.change.Change.{Change}
use Rattle.gt_model.specs.declared.change.Change.TheVariants.{Create, Delete, Link, Write, Repack, Prune, PackRefs, Unlink}
use Rattle.gt_model.specs.declared.entry.Entry.{Entry}
use Rattle.gt_apply.specs.Plan.{no_files, numbers_of, to_loose, with_loose, placed, rearranged}
use Rattle.gt_apply.specs.Fitting.{job_file, job_files}
use Rattle.gt_apply.proofs.Lists.{In, Apart, in-append, in-front, in-back, in-last, in-filter, apart-front, apart-back, apart-between, apart-both, apart-filter, apart-last}
use Rattle.gt_apply.proofs.SlotLaws.{enter, first_of, start, slot, slots}

-- ---- the numbers in a map

abbrev values : List (List ℕ × ℕ) → List ℕ
values es = map_list (λ e. e.1) es

in-put : (k : List ℕ) (v : ℕ) (es : List (List ℕ × ℕ)) (x : ℕ) → In (values (put key_cmp k v es)) x → In (values es) x ⊎ (x ≡ v)
in-put k v [] x h = ⊎_elim inr absurd h
in-put k v (e ∷ es) x h = by (key_cmp k e.0) (in-put k v es x) h
  where
    by : (o : Ordering) → (In (values (put key_cmp k v es)) x → In (values es) x ⊎ (x ≡ v)) → In (values (by_order o ((k, v) ∷ e ∷ es) ((e.0, v) ∷ es) (e ∷ put key_cmp k v es))) x → In (values (e ∷ es)) x ⊎ (x ≡ v)
    by Less more h = ⊎_elim inr inl h
    by Equal more h = ⊎_elim inr (λ i. inl (inr i)) h
    by Greater more h = ⊎_elim (λ i. inl (inl i)) (λ i. ⊎_elim (λ j. inl (inr j)) inr (more i)) h

apart-put : (k : List ℕ) (v : ℕ) (es : List (List ℕ × ℕ)) → Apart (values es) → (In (values es) v → ⊥) → Apart (values (put key_cmp k v es))
apart-put k v [] h new = (λ i. i, tt)
apart-put k v (e ∷ es) h new = by (key_cmp k e.0) (apart-put k v es h.1 (λ i. new (inr i)))
  where
    by : (o : Ordering) → Apart (values (put key_cmp k v es)) → Apart (values (by_order o ((k, v) ∷ e ∷ es) ((e.0, v) ∷ es) (e ∷ put key_cmp k v es)))
    by Less more = (new, h)
    by Equal more = (λ i. new (inr i), h.1)
    by Greater more = (λ i. ⊎_elim h.0 (λ is. new (inl (sym is))) (in-put k v es e.1 i), more)

no_length : {A : Type 0} (es : List A) → length es ≡ 0 → es ≡ []
no_length [] e = refl
no_length (x ∷ es) e = absurd (omega arith)

pub entries-empty : {X : Type 0} → map.entries (map.empty {X = X} {R = key_cmp}) ≡ []
entries-empty {X} = no_length (map.entries (map.empty {X = X} {R = key_cmp})) (sym (len-entries (map.empty {X = X} {R = key_cmp})) ∙ len-empty key_cmp X)

in-from : (es : List (List ℕ × ℕ)) (x : ℕ) → In (values (map.entries (map.from_entries {R = key_cmp} es))) x → In (values es) x
in-from [] x h = subst (λ (fs : List (List ℕ × ℕ)). In (values fs) x) (entries-empty {X = ℕ}) h
in-from (e ∷ es) x h =
    ⊎_elim (λ i. inr (in-from es x i)) inl
    (in-put e.0 e.1 (map.entries (map.from_entries {R = key_cmp} es)) x (subst (λ (fs : List (List ℕ × ℕ)). In (values fs) x) (entries-insert nat_list_cmp_total (map.from_entries es) e.0 e.1) h))

apart-from : (es : List (List ℕ × ℕ)) → Apart (values es) → Apart (values (map.entries (map.from_entries {R = key_cmp} es)))
apart-from [] h = subst (λ (fs : List (List ℕ × ℕ)). Apart (values fs)) (sym (entries-empty {X = ℕ})) tt
apart-from (e ∷ es) h =
    subst (λ (fs : List (List ℕ × ℕ)). Apart (values fs)) (sym (entries-insert nat_list_cmp_total (map.from_entries es) e.0 e.1))
    (apart-put e.0 e.1 (map.entries (map.from_entries {R = key_cmp} es)) (apart-from es h.1) (λ i. h.0 (in-from es e.1 i)))

pairs-values : (list : List Loose) → values (map_list (λ l. (l.name, l.file)) list) ≡ map_list file_of list
pairs-values [] = refl
pairs-values (l ∷ ls) = ap (λ (ns : List ℕ). l.file ∷ ns) (pairs-values ls)

loose-values : (es : List (List ℕ × ℕ)) → map_list file_of (map_list to_loose es) ≡ values es
loose-values [] = refl
loose-values (e ∷ es) = ap (λ (ns : List ℕ). e.1 ∷ ns) (loose-values es)

module _ (list : List Loose) (name : List ℕ) (n : ℕ) where
  with-values : map_list file_of (with_loose list name n) ≡ values (put key_cmp name n (map.entries (numbers_of list)))
  with-values = loose-values (map.entries (map.insert (numbers_of list) name n)) ∙ ap (λ (es : List (List ℕ × ℕ)). values es) (entries-insert nat_list_cmp_total (numbers_of list) name n)

  in-before : (x : ℕ) → In (values (map.entries (numbers_of list))) x → In (map_list file_of list) x
  in-before x i = subst (λ (ns : List ℕ). In ns x) (pairs-values list) (in-from (map_list (λ l. (l.name, l.file)) list) x i)

  in-with : (x : ℕ) → In (map_list file_of (with_loose list name n)) x → In (map_list file_of list) x ⊎ (x ≡ n)
  in-with x h = ⊎_elim (λ i. inl (in-before x i)) inr (in-put name n (map.entries (numbers_of list)) x (subst (λ (ns : List ℕ). In ns x) with-values h))

  apart-with : Apart (map_list file_of list) → (In (map_list file_of list) n → ⊥) → Apart (map_list file_of (with_loose list name n))
  apart-with h new =
      subst (λ (ns : List ℕ). Apart ns) (sym with-values)
      (apart-put name n (map.entries (numbers_of list)) (apart-from (map_list (λ l. (l.name, l.file)) list) (subst (λ (ns : List ℕ). Apart ns) (sym (pairs-values list)) h)) (λ i. new (in-before n i)))

-- ---- the numbers of a repository

-- None of its numbers stands twice, and this is known of each.
pub record Holds (K : ℕ → Type 0) (r : RepoFiles) : Type 0 where
  pub packs : Apart r.packs
  pub loose : Apart (map_list file_of r.loose)
  pub packs_packed : (k : ℕ) → In r.packs k → In (packed_number r.packed) k → ⊥
  pub packs_loose : (k : ℕ) → In r.packs k → In (map_list file_of r.loose) k → ⊥
  pub packed_loose : (k : ℕ) → In (packed_number r.packed) k → In (map_list file_of r.loose) k → ⊥
  pub in_packs : (k : ℕ) → In r.packs k → K k
  pub in_packed : (k : ℕ) → In (packed_number r.packed) k → K k
  pub in_loose : (k : ℕ) → In (map_list file_of r.loose) k → K k

packed-apart : (n : ℕ) → Apart (packed_number n)
packed-apart n = by (n == 0)
  where
    by : (b : Bool) → Apart (cond b [] (n ∷ []))
    by true = tt
    by false = (λ i. i, tt)

packed-is : (n k : ℕ) → In (packed_number n) k → k ≡ n
packed-is n k h = by (n == 0) h
  where
    by : (b : Bool) → In (cond b [] (n ∷ [])) k → k ≡ n
    by true h = absurd h
    by false h = ⊎_elim (λ e. e) absurd h

pub to_holds : (K : ℕ → Type 0) (r : RepoFiles) → Apart (file_numbers r) → ((k : ℕ) → In (file_numbers r) k → K k) → Holds K r
to_holds K r h known =
    let rest : List ℕ = packed_number r.packed ++ map_list file_of r.loose in
    let apart : Apart (packed_number r.packed ++ map_list file_of r.loose) = apart-back r.packs rest h in
    record {
      packs = apart-front r.packs rest h;
      loose = apart-back (packed_number r.packed) (map_list file_of r.loose) apart;
      packs_packed = λ k i j. apart-between r.packs rest h k i (in-front (packed_number r.packed) (map_list file_of r.loose) k j);
      packs_loose = λ k i j. apart-between r.packs rest h k i (in-back (packed_number r.packed) (map_list file_of r.loose) k j);
      packed_loose = λ k i j. apart-between (packed_number r.packed) (map_list file_of r.loose) apart k i j;
      in_packs = λ k i. known k (in-front r.packs rest k i);
      in_packed = λ k i. known k (in-back r.packs rest k (in-front (packed_number r.packed) (map_list file_of r.loose) k i));
      in_loose = λ k i. known k (in-back r.packs rest k (in-back (packed_number r.packed) (map_list file_of r.loose) k i));
    }

pub holds-apart : (K : ℕ → Type 0) (r : RepoFiles) → Holds K r → Apart (file_numbers r)
holds-apart K r h =
    apart-both r.packs (packed_number r.packed ++ map_list file_of r.loose) h.packs
    (apart-both (packed_number r.packed) (map_list file_of r.loose) (packed-apart r.packed) h.loose h.packed_loose)
    (λ k i j. ⊎_elim (h.packs_packed k i) (h.packs_loose k i) (in-append (packed_number r.packed) (map_list file_of r.loose) k j))

pub holds-known : (K : ℕ → Type 0) (r : RepoFiles) → Holds K r → (k : ℕ) → In (file_numbers r) k → K k
holds-known K r h k i =
    ⊎_elim (h.in_packs k) (λ j. ⊎_elim (h.in_packed k) (h.in_loose k) (in-append (packed_number r.packed) (map_list file_of r.loose) k j))
    (in-append r.packs (packed_number r.packed ++ map_list file_of r.loose) k i)

pub holds-more : (K L : ℕ → Type 0) (r : RepoFiles) → ((k : ℕ) → K k → L k) → Holds K r → Holds L r
holds-more K L r f h = record {
  packs = h.packs;
  loose = h.loose;
  packs_packed = h.packs_packed;
  packs_loose = h.packs_loose;
  packed_loose = h.packed_loose;
  in_packs = λ k i. f k (h.in_packs k i);
  in_packed = λ k i. f k (h.in_packed k i);
  in_loose = λ k i. f k (h.in_loose k i);
}

-- some loose files stay
in-kept : (p : Loose → Bool) (ls : List Loose) (k : ℕ) → In (map_list file_of (filter p ls)) k → In (map_list file_of ls) k
in-kept p [] k i = i
in-kept p (l ∷ ls) k i = by (p l) (in-kept p ls k) i
  where
    by : (b : Bool) → (In (map_list file_of (filter p ls)) k → In (map_list file_of ls) k) → In (map_list file_of (cond b (l ∷ filter p ls) (filter p ls))) k → In (map_list file_of (l ∷ ls)) k
    by true more i = ⊎_elim inl (λ j. inr (more j)) i
    by false more i = inr (more i)

apart-kept : (p : Loose → Bool) (ls : List Loose) → Apart (map_list file_of ls) → Apart (map_list file_of (filter p ls))
apart-kept p [] h = tt
apart-kept p (l ∷ ls) h = by (p l) (apart-kept p ls h.1)
  where
    by : (b : Bool) → Apart (map_list file_of (filter p ls)) → Apart (map_list file_of (cond b (l ∷ filter p ls) (filter p ls)))
    by true more = (λ i. h.0 (in-kept p ls l.file i), more)
    by false more = more

-- ---- one number more

abbrev pub Or : (ℕ → Type 0) → ℕ → ℕ → Type 0
Or K n k = K k ⊎ (k ≡ n)

module _ (K : ℕ → Type 0) (n : ℕ) (new : K n → ⊥) (r : RepoFiles) (h : Holds K r) where
  -- it is none of those that are known
  other : (k : ℕ) → k ≡ n → K k → ⊥
  other k e i = new (subst K e i)

  holds-last : Holds (Or K n) (record r { packs = r.packs ++ n ∷ [] })
  holds-last = record {
    packs = apart-last r.packs n h.packs (λ i. new (h.in_packs n i));
    loose = h.loose;
    packs_packed = λ k i j. ⊎_elim (λ a. h.packs_packed k a j) (λ e. other k e (h.in_packed k j)) (in-last r.packs n k i);
    packs_loose = λ k i j. ⊎_elim (λ a. h.packs_loose k a j) (λ e. other k e (h.in_loose k j)) (in-last r.packs n k i);
    packed_loose = h.packed_loose;
    in_packs = λ k i. ⊎_elim (λ a. inl (h.in_packs k a)) inr (in-last r.packs n k i);
    in_packed = λ k i. inl (h.in_packed k i);
    in_loose = λ k i. inl (h.in_loose k i);
  }

  holds-with : (name : List ℕ) → Holds (Or K n) (record r { loose = with_loose r.loose name n })
  holds-with name = record {
    packs = h.packs;
    loose = apart-with r.loose name n h.loose (λ i. new (h.in_loose n i));
    packs_packed = h.packs_packed;
    packs_loose = λ k i j. ⊎_elim (h.packs_loose k i) (λ e. other k e (h.in_packs k i)) (in-with r.loose name n k j);
    packed_loose = λ k i j. ⊎_elim (h.packed_loose k i) (λ e. other k e (h.in_packed k i)) (in-with r.loose name n k j);
    in_packs = λ k i. inl (h.in_packs k i);
    in_packed = λ k i. inl (h.in_packed k i);
    in_loose = λ k i. ⊎_elim (λ a. inl (h.in_loose k a)) inr (in-with r.loose name n k i);
  }

  -- a pack before some of the others; the pool and the positions are no numbers of files
  holds-first : (p : ℕ → Bool) (pool : Option (List ℕ)) (position : ℕ) → Holds (Or K n) (record r { packs = n ∷ filter p r.packs; pool = pool; repacked = position })
  holds-first p pool position = record {
    packs = (λ i. new (h.in_packs n (in-filter p r.packs n i)), apart-filter p r.packs h.packs);
    loose = h.loose;
    packs_packed = λ k i j. ⊎_elim (λ e. other k e (h.in_packed k j)) (λ a. h.packs_packed k (in-filter p r.packs k a) j) i;
    packs_loose = λ k i j. ⊎_elim (λ e. other k e (h.in_loose k j)) (λ a. h.packs_loose k (in-filter p r.packs k a) j) i;
    packed_loose = h.packed_loose;
    in_packs = λ k i. ⊎_elim inr (λ a. inl (h.in_packs k (in-filter p r.packs k a))) i;
    in_packed = λ k i. inl (h.in_packed k i);
    in_loose = λ k i. inl (h.in_loose k i);
  }

  holds-before : (position : ℕ) → Holds (Or K n) (record r { packs = n ∷ r.packs; pool = None; repacked = position })
  holds-before position = record {
    packs = (λ i. new (h.in_packs n i), h.packs);
    loose = h.loose;
    packs_packed = λ k i j. ⊎_elim (λ e. other k e (h.in_packed k j)) (λ a. h.packs_packed k a j) i;
    packs_loose = λ k i j. ⊎_elim (λ e. other k e (h.in_loose k j)) (λ a. h.packs_loose k a j) i;
    packed_loose = h.packed_loose;
    in_packs = λ k i. ⊎_elim inr (λ a. inl (h.in_packs k a)) i;
    in_packed = λ k i. inl (h.in_packed k i);
    in_loose = λ k i. inl (h.in_loose k i);
  }

  -- packed references in place of some loose files
  holds-packed : (p : Loose → Bool) (position : ℕ) → Holds (Or K n) (record r { packed = n; loose = filter p r.loose; refs_packed = position })
  holds-packed p position = record {
    packs = h.packs;
    loose = apart-kept p r.loose h.loose;
    packs_packed = λ k i j. other k (packed-is n k j) (h.in_packs k i);
    packs_loose = λ k i j. h.packs_loose k i (in-kept p r.loose k j);
    packed_loose = λ k i j. other k (packed-is n k i) (h.in_loose k (in-kept p r.loose k j));
    in_packs = λ k i. inl (h.in_packs k i);
    in_packed = λ k i. inr (packed-is n k i);
    in_loose = λ k i. inl (h.in_loose k (in-kept p r.loose k i));
  }

-- ---- what an entry makes of them

job-is : (K : ℕ → Type 0) (n k : ℕ) → Or K n k → K k ⊎ In (n ∷ []) k
job-is K n k x = ⊎_elim inl (λ e. inr (inl e)) x

same-numbers : (K : ℕ → Type 0) (r : RepoFiles) (pool : Option (List ℕ)) → Holds K r → Holds K (record r { pool = pool })
same-numbers K r pool h = record {
  packs = h.packs;
  loose = h.loose;
  packs_packed = h.packs_packed;
  packs_loose = h.packs_loose;
  packed_loose = h.packed_loose;
  in_packs = h.in_packs;
  in_packed = h.in_packed;
  in_loose = h.in_loose;
}

module _ (K : ℕ → Type 0) (position : ℕ) (r : RepoFiles) (h : Holds K r) where
  holds-rearranged : (change : Change) → ((k : ℕ) → In (job_file change) k → K k → ⊥) → Holds (λ k. K k ⊎ In (job_file change) k) (rearranged position change r)
  holds-rearranged (Create pool) new = holds-more K (λ k. K k ⊎ ⊥) r (λ k i. inl i) h
  holds-rearranged Delete new = holds-more K (λ k. K k ⊎ ⊥) r (λ k i. inl i) h
  holds-rearranged (Link pool) new = holds-more K (λ k. K k ⊎ ⊥) (record r { pool = Some pool }) (λ k i. inl i) (same-numbers K r (Some pool) h)
  holds-rearranged (Write refs needed added) new = holds-more K (λ k. K k ⊎ ⊥) r (λ k i. inl i) h
  holds-rearranged (Repack file dropped) new =
      holds-more (Or K file) (λ k. K k ⊎ In (file ∷ []) k) (rearranged position (Repack file dropped) r) (job-is K file) (holds-first K file (new file (inl refl)) r h (λ n. nat_le file n) r.pool position)
  holds-rearranged (Prune file dropped) new =
      holds-more (Or K file) (λ k. K k ⊎ In (file ∷ []) k) (rearranged position (Prune file dropped) r) (job-is K file) (holds-first K file (new file (inl refl)) r h (λ n. nat_le file n) r.pool position)
  holds-rearranged (PackRefs file) new =
      holds-more (Or K file) (λ k. K k ⊎ In (file ∷ []) k) (rearranged position (PackRefs file) r) (job-is K file) (holds-packed K file (new file (inl refl)) r h (λ l. nat_le file l.file) position)
  holds-rearranged (Unlink file) new =
      holds-more (Or K file) (λ k. K k ⊎ In (file ∷ []) k) (rearranged position (Unlink file) r) (job-is K file) (holds-before K file (new file (inl refl)) r h position)

-- ---- what stands at a path

abbrev pub HoldsAt : (ℕ → Type 0) → Option RepoFiles → Type 0
HoldsAt K None = Unit {0}
HoldsAt K (Some r) = Holds K r

pub at-more : (K L : ℕ → Type 0) (o : Option RepoFiles) → ((k : ℕ) → K k → L k) → HoldsAt K o → HoldsAt L o
at-more K L None f h = tt
at-more K L (Some r) f h = holds-more K L r f h

at-map : (K L : ℕ → Type 0) (g : RepoFiles → RepoFiles) (o : Option RepoFiles) → ((r : RepoFiles) → Holds K r → Holds L (g r)) → HoldsAt K o → HoldsAt L (option_map g o)
at-map K L g None f h = tt
at-map K L g (Some r) f h = f r h

enter-one : (K : ℕ → Type 0) (e : Entry) (o : Option RepoFiles) → HoldsAt K o → ((k : ℕ) → In (job_file e.change) k → K k → ⊥) → HoldsAt (λ k. K k ⊎ In (job_file e.change) k) (enter o e)
enter-one K e o h new = by (is_deletion e.change)
  where
    by : (b : Bool) → HoldsAt (λ k. K k ⊎ In (job_file e.change) k) (cond b None (option_map (rearranged e.position e.change) o))
    by true = tt
    by false = at-map K (λ k. K k ⊎ In (job_file e.change) k) (rearranged e.position e.change) o (λ r i. holds-rearranged K e.position r i e.change new) h

enter-all : (K : ℕ → Type 0) (own : List Entry) (o : Option RepoFiles) → HoldsAt K o → Apart (job_files own) → ((k : ℕ) → In (job_files own) k → K k → ⊥) → HoldsAt (λ k. K k ⊎ In (job_files own) k) (fold enter o own)
enter-all K [] o h apart new = at-more K (λ k. K k ⊎ ⊥) o (λ k i. inl i) h
enter-all K (e ∷ es) o h apart new =
    at-more (λ k. (K k ⊎ In (job_file e.change) k) ⊎ In (job_files es) k) (λ k. K k ⊎ In (job_file e.change ++ job_files es) k) (fold enter (enter o e) es)
    (λ k x. ⊎_elim (λ y. ⊎_elim inl (λ j. inr (in-front (job_file e.change) (job_files es) k j)) y) (λ j. inr (in-back (job_file e.change) (job_files es) k j)) x)
    (enter-all (λ k. K k ⊎ In (job_file e.change) k) es (enter o e) (enter-one K e o h (λ k i. new k (in-front (job_file e.change) (job_files es) k i))) (apart-back (job_file e.change) (job_files es) apart)
    (λ k i x. ⊎_elim (new k (in-back (job_file e.change) (job_files es) k i)) (λ j. apart-between (job_file e.change) (job_files es) apart k j i) x))

-- from a number up to below another
abbrev pub Between : ℕ → ℕ → ℕ → Type 0
Between a b k = (a ≤ k) × (k < b)

holds-placed : (K : ℕ → Type 0) (n : ℕ) (files : List batch.NewFile) (r : RepoFiles) → ((k : ℕ) → K k → k < n) → Holds K r → Holds (λ k. K k ⊎ Between n (n + length files) k) (placed n files r)
holds-placed K n [] r below h = holds-more K (λ k. K k ⊎ Between n (n + 0) k) r (λ k i. inl i) h
holds-placed K n (batch.pack ∷ files) r below h =
    holds-more (λ k. Or K n k ⊎ Between (n + 1) ((n + 1) + length files) k) (λ k. K k ⊎ Between n (n + length (batch.pack ∷ files)) k) (placed n (batch.pack ∷ files) r)
    (λ k x. ⊎_elim (λ y. ⊎_elim inl (λ e. inr (omega arith, omega arith)) y) (λ b. let lo : n + 1 ≤ k = b.0 in let hi : k < (n + 1) + length files = b.1 in inr (omega arith, omega arith)) x)
    (holds-placed (Or K n) (n + 1) files (record r { packs = r.packs ++ n ∷ [] })
    (λ k x. ⊎_elim (λ i. let b : k < n = below k i in omega arith) (λ e. omega arith) x)
    (holds-last K n (λ i. let b : n < n = below n i in omega arith) r h))
holds-placed K n (batch.loose name ∷ files) r below h =
    holds-more (λ k. Or K n k ⊎ Between (n + 1) ((n + 1) + length files) k) (λ k. K k ⊎ Between n (n + length (batch.loose name ∷ files)) k) (placed n (batch.loose name ∷ files) r)
    (λ k x. ⊎_elim (λ y. ⊎_elim inl (λ e. inr (omega arith, omega arith)) y) (λ b. let lo : n + 1 ≤ k = b.0 in let hi : k < (n + 1) + length files = b.1 in inr (omega arith, omega arith)) x)
    (holds-placed (Or K n) (n + 1) files (record r { loose = with_loose r.loose name n })
    (λ k x. ⊎_elim (λ i. let b : k < n = below k i in omega arith) (λ e. omega arith) x)
    (holds-with K n (λ i. let b : n < n = below n i in omega arith) r h name))

holds-start : (K : ℕ → Type 0) (path : List ℕ) (own : List Entry) (o : Option RepoFiles) → HoldsAt K o → HoldsAt K (start path own o)
holds-start K path [] o h = h
holds-start K path (e ∷ es) o h = by e.change
  where
    by : (change : Change) → HoldsAt K (first_of change path o)
    by (Create pool) = to_holds K (no_files path pool) tt (λ k i. absurd i)
    by Delete = h
    by (Link pool) = h
    by (Write refs needed added) = h
    by (Repack file dropped) = h
    by (Prune file dropped) = h
    by (PackRefs file) = h
    by (Unlink file) = h

-- the numbers that the entries of one repository bring
abbrev pub Brings : ℕ → List Entry → ℕ → Type 0
Brings n own k = Between n (n + length (files_of own)) k ⊎ In (job_files own) k

module _ (K : ℕ → Type 0) (path : List ℕ) (n : ℕ) (own : List Entry) (o : Option RepoFiles) (below : (k : ℕ) → K k → k < n) (h : HoldsAt K o)
    (apart : Apart (job_files own)) (low : (k : ℕ) → In (job_files own) k → k < n) (new : (k : ℕ) → In (job_files own) k → K k → ⊥) where
  holds-slot : HoldsAt (λ k. K k ⊎ Brings n own k) (slot path n own o)
  holds-slot =
      at-more (λ k. (K k ⊎ Between n (n + length (files_of own)) k) ⊎ In (job_files own) k) (λ k. K k ⊎ Brings n own k) (slot path n own o)
      (λ k x. ⊎_elim (λ y. ⊎_elim inl (λ b. inr (inl b)) y) (λ j. inr (inr j)) x)
      (enter-all (λ k. K k ⊎ Between n (n + length (files_of own)) k) own (option_map (placed n (files_of own)) (start path own o))
      (at-map K (λ k. K k ⊎ Between n (n + length (files_of own)) k) (placed n (files_of own)) (start path own o) (λ r i. holds-placed K n (files_of own) r below i) (holds-start K path own o h))
      apart (λ k i x. ⊎_elim (new k i) (λ b. let a : k < n = low k i in let c : n ≤ k = b.0 in omega arith) x))

-- all repositories of a path
abbrev pub BringAll : ℕ → List (List Entry) → ℕ → Type 0
BringAll n repos k = Between n (n + length (flat_map files_of repos)) k ⊎ In (flat_map job_files repos) k

pub holds-slots : (K : ℕ → Type 0) (path : List ℕ) (n : ℕ) (repos : List (List Entry)) (o : Option RepoFiles) → ((k : ℕ) → K k → k < n) → HoldsAt K o
    → Apart (flat_map job_files repos) → ((k : ℕ) → In (flat_map job_files repos) k → k < n) → ((k : ℕ) → In (flat_map job_files repos) k → K k → ⊥)
    → HoldsAt (λ k. K k ⊎ BringAll n repos k) (slots path n repos o)
holds-slots K path n [] o below h apart low new = at-more K (λ k. K k ⊎ BringAll n [] k) o (λ k i. inl i) h
holds-slots K path n (own ∷ later) o below h apart low new =
    let mine : List ℕ = job_files own in
    let theirs : List ℕ = flat_map job_files later in
    let long : length (flat_map files_of (own ∷ later)) ≡ length (files_of own) + length (flat_map files_of later) = length-append (files_of own) (flat_map files_of later) in
    at-more (λ k. (K k ⊎ Brings n own k) ⊎ BringAll (n + length (files_of own)) later k) (λ k. K k ⊎ BringAll n (own ∷ later) k) (slots path (n + length (files_of own)) later (slot path n own o))
    (λ k x. ⊎_elim
    (λ y. ⊎_elim inl (λ z. ⊎_elim (λ b. let hi : k < n + length (files_of own) = b.1 in inr (inl (b.0, omega arith))) (λ j. inr (inr (in-front mine theirs k j))) z) y)
    (λ z. ⊎_elim (λ b. let lo : n + length (files_of own) ≤ k = b.0 in let hi : k < (n + length (files_of own)) + length (flat_map files_of later) = b.1 in inr (inl (omega arith, omega arith))) (λ j. inr (inr (in-back mine theirs k j))) z) x)
    (holds-slots (λ k. K k ⊎ Brings n own k) path (n + length (files_of own)) later (slot path n own o)
    (λ k x. ⊎_elim (λ i. let b : k < n = below k i in omega arith) (λ z. ⊎_elim (λ b. b.1) (λ j. let b : k < n = low k (in-front mine theirs k j) in omega arith) z) x)
    (holds-slot K path n own o below h (apart-front mine theirs apart) (λ k i. low k (in-front mine theirs k i)) (λ k i. new k (in-front mine theirs k i)))
    (apart-back mine theirs apart)
    (λ k i. let b : k < n = low k (in-back mine theirs k i) in omega arith)
    (λ k i x. ⊎_elim (new k (in-back mine theirs k i)) (λ z. ⊎_elim (λ b. let a : k < n = low k (in-back mine theirs k i) in let c : n ≤ k = b.0 in omega arith) (λ j. apart-between mine theirs apart k j i) z) x))
