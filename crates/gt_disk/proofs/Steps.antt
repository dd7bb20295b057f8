-- How one device call goes on from another.
use Rattle.std.proofs.Common.{◌≡◌, ◌≢◌, ◌⊎◌, inl, inr, ℕ, refl, sym, ◌∙◌, ap, subst, arith}
use Rattle.std.proofs.lemmas.Bool.{cases_lt, cases_eq}
use Rattle.gt_disk.specs.declared.file_id.FileId.{FileId}
use Rattle.gt_disk.specs.Files.{FileState, still, States, View, now, Becomes, Unchanged, Synced, Quiet, Files, IsImage, Leaves}
use Rattle.gt_disk.specs.Moments.{Since, Runs, Narrows}

pub cases_file : (f g : FileId) → (f ≡ g) ⊎ (f ≢ g)
cases_file f g = by (cases_eq f.kind g.kind) (cases_eq f.number g.number)
  where
    by : (f.kind ≡ g.kind) ⊎ (f.kind ≢ g.kind) → (f.number ≡ g.number) ⊎ (f.number ≢ g.number) → (f ≡ g) ⊎ (f ≢ g)
    by (inl k) (inl n) = inl (λ i. record { kind = k i; number = n i })
    by (inr k) n = inr (λ e. k (ap (λ (x : FileId). x.kind) e))
    by (inl k) (inr n) = inr (λ e. n (ap (λ (x : FileId). x.number) e))

-- at the end of a run the other files are as at its start
pub runs_now : (f : FileId) (P : FileState → Type 0) (v w : View) → Runs f P v w → (g : FileId) → g ≢ f → now w g ≡ now v g
runs_now f P v w r g ne = elim (cases_lt v.clock w.clock) [
  | inl lt ↦ r.others w.clock lt (omega arith) g ne
  | inr ge ↦
      let same : w.clock ≡ v.clock = omega (arith, r.later) in
      ap (λ (m : ℕ). w.at m g) same ∙ ap (λ (s : States). s g) (r.past v.clock (omega arith))
]

pub runs_join : (f : FileId) (P : FileState → Type 0) (u v w : View) → Runs f P u v → Runs f P v w → Runs f P u w
runs_join f P u v w r t = record {
  later = omega (arith, r.later, t.later);
  past = λ m le. t.past m (omega (arith, r.later)) ∙ r.past m le;
  this = λ m lt le. elim (cases_lt v.clock m) [
    | inl after ↦ t.this m after le
    | inr before ↦ subst (λ (s : States). P (s f)) (sym (t.past m before)) (r.this m lt before)
  ];
  others = λ m lt le g ne. elim (cases_lt v.clock m) [
    | inl after ↦ t.others m after le g ne ∙ runs_now f P u v r g ne
    | inr before ↦ ap (λ (s : States). s g) (t.past m before) ∙ r.others m lt before g ne
  ];
  reads_others = λ g ne. t.reads_others g ne ∙ r.reads_others g ne;
}

pub runs_becomes : (f : FileId) (s : FileState) (P : FileState → Type 0) (v w : View) → Becomes f s v w → P s → Runs f P v w
runs_becomes f s P v w b p = record {
  later = omega (arith, b.moves);
  past = b.past;
  this = λ m lt le. subst P (sym (b.this m lt le)) p;
  others = b.others;
  reads_others = b.reads_others;
}

pub runs_unchanged : (f : FileId) (P : FileState → Type 0) (v w : View) → Unchanged v w → P (now v f) → Runs f P v w
runs_unchanged f P v w un p = record {
  later = un.later;
  past = un.past;
  this = λ m lt le. subst (λ (s : States). P (s f)) (sym (un.since m lt le)) p;
  others = λ m lt le g ne. ap (λ (s : States). s g) (un.since m lt le);
  reads_others = λ g ne. ap (λ r. r g) un.reads;
}

pub runs_synced : (f : FileId) (P : FileState → Type 0) (v w : View) → Synced f v w → P (now v f) → P (still (v.reads f)) → Runs f P v w
runs_synced f P v w s p q = record {
  later = s.later;
  past = s.past;
  this = λ m lt le. elim (cases_lt m w.clock) [
    | inl during ↦ subst (λ (x : States). P (x f)) (sym (s.during m lt during)) p
    | inr end ↦ let is : m ≡ w.clock = omega arith in subst (λ (k : ℕ). P (w.at k f)) (sym is) (subst P (sym s.this) q)
  ];
  others = λ m lt le g ne. elim (cases_lt m w.clock) [
    | inl during ↦ ap (λ (x : States). x g) (s.during m lt during)
    | inr end ↦ let is : m ≡ w.clock = omega arith in ap (λ (k : ℕ). w.at k g) is ∙ s.others g ne
  ];
  reads_others = λ g ne. ap (λ r. r g) s.reads;
}

pub since_join : (P : States → Type 0) (u v w : View) → Since P u v → Since P v w → Since P u w
since_join P u v w r t = record {
  later = omega (arith, r.later, t.later);
  past = λ m le. t.past m (omega (arith, r.later)) ∙ r.past m le;
  each = λ m lt le. elim (cases_lt v.clock m) [
    | inl after ↦ t.each m after le
    | inr before ↦ subst P (sym (t.past m before)) (r.each m lt before)
  ];
}

pub since_runs : (f : FileId) (Q : FileState → Type 0) (P : States → Type 0) (v w : View) → Runs f Q v w → ((s : States) → Q (s f) → ((g : FileId) → g ≢ f → s g ≡ now v g) → P s) → Since P v w
since_runs f Q P v w r imp = record {
  later = r.later;
  past = r.past;
  each = λ m lt le. imp (w.at m) (r.this m lt le) (r.others m lt le);
}

-- where nothing moves
pub since_none : (P : States → Type 0) (v : View) → Since P v v
since_none P v = record { later = omega arith; past = λ m le. refl; each = λ m lt le. absurd (omega arith) }

pub since_quiet : (P : States → Type 0) (u v w : View) → Since P u v → Quiet v w → Since P u w
since_quiet P u v w s q = record {
  later = omega (arith, s.later, q.clock);
  past = λ m le. ap (λ (a : ℕ → States). a m) q.at ∙ s.past m le;
  each = λ m lt le. subst (λ (a : ℕ → States). P (a m)) (sym q.at) (s.each m lt (omega (arith, q.clock)));
}

narrowed : (f : FileId) (v w : View) → Synced f v w → IsImage (now v) v.reads → (image : Files) → IsImage (now w) image → IsImage (now v) image
narrowed f v w s shows image is g = elim (cases_file f g) [
  | inl same ↦
      let here : image f ≡ v.reads f = subst (λ (t : FileState). Leaves t (image f)) s.this (is f) in
      subst (λ (h : FileId). Leaves (now v h) (image h)) same (subst (Leaves (now v f)) (sym here) (shows f))
  | inr other ↦ subst (λ (t : FileState). Leaves t (image g)) (s.others g (λ e. other (sym e))) (is g)
]

pub narrows_synced : (f : FileId) (v w : View) → Synced f v w → IsImage (now v) v.reads → Narrows v w
narrows_synced f v w s shows = record {
  later = s.later;
  past = s.past;
  each = λ m lt le. elim (cases_lt m w.clock) [
    | inl during ↦ (λ image is. subst (λ (x : States). IsImage x image) (s.during m lt during) is)
    | inr end ↦ let is_end : m ≡ w.clock = omega arith in (λ image is. narrowed f v w s shows image (subst (λ (k : ℕ). IsImage (w.at k) image) is_end is))
  ];
}

pub narrows_unchanged : (v w : View) → Unchanged v w → Narrows v w
narrows_unchanged v w u = record { later = u.later; past = u.past; each = λ m lt le image is. subst (λ (x : States). IsImage x image) (u.since m lt le) is }

pub narrows_quiet : (u v w : View) → Narrows u v → Quiet v w → Narrows u w
narrows_quiet u v w s q = since_quiet (λ states. (image : Files) → IsImage states image → IsImage (now u) image) u v w s q
