-- The stages of an `add` and of a `settle`.
use Rattle.std.proofs.Common.{◌≡◌, ◌≢◌, ◌⊎◌, inl, inr, ⊎_elim, ℕ, ◌+◌, List, [], ◌∷◌, ◌++◌, length, get_or, Some, refl, sym, ◌∙◌, ap, subst, arith, length-append}
use Rattle.std.specs.Option.{unwrap_or}
use Rattle.std.proofs.lemmas.Bool.{cases_lt, cases_eq}
use Rattle.std.proofs.lemmas.List.{get_or_append_left}
use Rattle.std.proofs.Math.Seq.{get_or-append_seam}
use Rattle.gt_disk.specs.declared.FileId.{FileId}
use Rattle.gt_disk.specs.Files.{Content, FileState, States, View, now, still, grown, appended, Leaves, IsImage, Synced}
use Rattle.gt_disk.specs.Moments.{Since, Runs, AnyState, Growing}
use Rattle.gt_disk.proofs.Steps.{runs_now, since_join, since_runs, runs_synced}
use Rattle.gt_log.specs.Log.{gate_file, entry_file, content_length, KeepsEntries, Stands, Doubts, Adding}

apart : (a b : ℕ) → a ≡ 4 → b ≡ 1 → a ≢ b
apart a b four one is = omega arith

entry_not_gate : (n : ℕ) → entry_file n ≢ gate_file
entry_not_gate n is = apart 4 1 refl refl (ap (λ (f : FileId). f.kind) is)

other_entry : (n m : ℕ) → n ≢ m → entry_file n ≢ entry_file m
other_entry n m ne is = ne (ap (λ (f : FileId). f.number) is)

-- a gate that is still or grown by one byte
leaves_still : (s : FileState) (x y : Content) → s ≡ still x → Leaves s y → y ≡ x
leaves_still s x y is leaves = subst (λ (t : FileState). Leaves t y) is leaves

leaves_grown : (s : FileState) (x y : Content) → s ≡ grown x 1 → Leaves s y → (content_length y ≡ content_length x) ⊎ (content_length y ≡ content_length x + 1)
leaves_grown s x y is leaves = ⊎_elim
    (λ none. inl (ap content_length (none.1 ∙ sym none.0)))
    (λ (more, le, is_more). elim (cases_eq (length more) 0) [
      | inl zero_more ↦ inl (omega (arith, ap content_length is_more, length-append (unwrap_or x []) more))
      | inr one_more ↦ inr (omega (arith, ap content_length is_more, length-append (unwrap_or x []) more))
    ])
    (subst (λ (t : FileState). Leaves t y) is leaves)

keeps_beside : (first : ℕ) (entries : List (List ℕ)) (before states : States) → KeepsEntries first entries before → ((g : FileId) → g ≢ gate_file → states g ≡ before g) → KeepsEntries first entries states
keeps_beside first entries before states keeps others k lt = others (entry_file (k + first)) (entry_not_gate (k + first)) ∙ keeps k lt

module _ (first : ℕ) (entries : List (List ℕ)) (last : List ℕ) where
  -- the gate in each of its states, over the old entries and the new one
  module _ (before : States) (x : Content) (keeps : KeepsEntries first (entries ++ last ∷ []) before) (size : content_length x + 1 ≡ length entries + first) where
    counted : (states : States) → Growing x (1 ∷ []) (states gate_file) → ((g : FileId) → g ≢ gate_file → states g ≡ before g) → Doubts first entries last states
    counted states growing others = record {
      gate = λ y leaves. ⊎_elim
          (λ out. inl (ap (λ (z : Content). content_length z + 1) (leaves_still (states gate_file) x y out leaves) ∙ size))
          (λ more. ⊎_elim
          (λ doubt. ⊎_elim (λ same. inl (ap (λ (j : ℕ). j + 1) same ∙ size)) (λ longer. inr (omega arith)) (leaves_grown (states gate_file) x y doubt leaves))
          (λ in_. inr (omega (arith, ap content_length (leaves_still (states gate_file) (appended x (1 ∷ [])) y in_ leaves), length-append (unwrap_or x []) (1 ∷ []))))
          more)
          growing;
      each = keeps_beside first (entries ++ last ∷ []) before states keeps others;
    }

  module _ (n : ℕ) (next : n ≡ length entries + first) where
    -- another state of the new file changes nothing
    stands_beside : (before states : States) → Stands first entries before → ((g : FileId) → g ≢ entry_file n → states g ≡ before g) → Stands first entries states
    stands_beside before states s others = record {
      gate = s.gate;
      gate_still = others gate_file (λ is. entry_not_gate n (sym is)) ∙ s.gate_still;
      gate_length = s.gate_length;
      each = λ k lt. others (entry_file (k + first)) (other_entry (k + first) n (λ is. omega arith)) ∙ s.each k lt;
    }

    keeps_more : (states : States) → KeepsEntries first entries states → states (entry_file n) ≡ still (Some last) → KeepsEntries first (entries ++ last ∷ []) states
    keeps_more states keeps is k lt = elim (cases_lt k (length entries)) [
      | inl old ↦ keeps k old ∙ ap (λ (e : List ℕ). still (Some e)) (sym (get_or_append_left entries (last ∷ []) [] k old))
      | inr end ↦
          let at_end : k ≡ length entries = omega (arith, length-append entries (last ∷ [])) in
          let at_n : k + first ≡ n = omega arith in
          ap (λ (i : ℕ). states (entry_file i)) at_n ∙ is ∙ ap (λ (e : List ℕ). still (Some e)) (sym (ap (λ (i : ℕ). get_or (entries ++ last ∷ []) i []) at_end ∙ get_or-append_seam entries last [] []))
    ]

    pub placed : (v w : View) → Stands first entries (now v) → Runs (entry_file n) AnyState v w → Stands first entries (now w)
    placed v w s r = stands_beside (now v) (now w) s (runs_now (entry_file n) AnyState v w r)

    -- the first two device calls
    pub placing : (v w : View) → Stands first entries (now v) → Runs (entry_file n) AnyState v w → Since (Adding first entries last (now v)) v w
    placing v w s r = since_runs (entry_file n) AnyState (Adding first entries last (now v)) v w r (λ states any others. record {
      log = inl (stands_beside (now v) states s others);
      others = λ g not_gate not_new. others g (λ is. not_new (is ∙ ap entry_file next));
    })

    -- all four
    pub adding : (v w x : View) → Stands first entries (now v) → Runs (entry_file n) AnyState v w → now w (entry_file n) ≡ still (Some last)
        → ((y : Content) → now w gate_file ≡ still y → Runs gate_file (Growing y (1 ∷ [])) w x) → Since (Adding first entries last (now v)) v x
    adding v w x s r is opens =
        let t = placed v w s r in
        since_join (Adding first entries last (now v)) v w x (placing v w s r)
        (since_runs gate_file (Growing t.gate (1 ∷ [])) (Adding first entries last (now v)) w x (opens t.gate t.gate_still) (λ states growing others. record {
          log = inr (counted (now w) t.gate (keeps_more (now w) t.each is) t.gate_length states growing others);
          others = λ g not_gate not_new. others g not_gate ∙ runs_now (entry_file n) AnyState v w r g (λ same. not_new (same ∙ ap entry_file next));
        }))

    pub doubted : (v w x : View) → Stands first entries (now v) → Runs (entry_file n) AnyState v w → now w (entry_file n) ≡ still (Some last)
        → ((y : Content) → now w gate_file ≡ still y → Runs gate_file (Growing y (1 ∷ [])) w x) → ((y : Content) → now w gate_file ≡ still y → now x gate_file ≡ grown y 1) → Doubts first entries last (now x)
    doubted v w x s r is opens at_end =
        let t = placed v w s r in
        counted (now w) t.gate (keeps_more (now w) t.each is) t.gate_length (now x) (inr (inl (at_end t.gate t.gate_still))) (runs_now gate_file (Growing t.gate (1 ∷ [])) w x (opens t.gate t.gate_still))

    pub added : (v w x : View) → Stands first entries (now v) → Runs (entry_file n) AnyState v w → now w (entry_file n) ≡ still (Some last)
        → ((y : Content) → now w gate_file ≡ still y → Runs gate_file (Growing y (1 ∷ [])) w x) → ((y : Content) → now w gate_file ≡ still y → now x gate_file ≡ still (appended y (1 ∷ [])))
        → Stands first (entries ++ last ∷ []) (now x)
    added v w x s r is opens at_end =
        let t = placed v w s r in
        record {
          gate = appended t.gate (1 ∷ []);
          gate_still = at_end t.gate t.gate_still;
          gate_length = omega (arith, t.gate_length, length-append entries (last ∷ []), length-append (unwrap_or t.gate []) (1 ∷ []));
          each = keeps_beside first (entries ++ last ∷ []) (now w) (now x) (keeps_more (now w) t.each is) (runs_now gate_file (Growing t.gate (1 ∷ [])) w x (opens t.gate t.gate_still));
        }

  -- a gate whose state leaves no more than what was there leaves the doubt
  pub still_doubts : (before states : States) (y : Content) → Doubts first entries last before → Leaves (before gate_file) y → states gate_file ≡ still y → ((g : FileId) → g ≢ gate_file → states g ≡ before g) → Doubts first entries last states
  still_doubts before states y d leaves is others = record {
    gate = λ z z_leaves. subst (λ (u : Content). (content_length u + 1 ≡ length entries + first) ⊎ (content_length u ≡ length entries + first)) (sym (leaves_still (states gate_file) y z is z_leaves)) (d.gate y leaves);
    each = keeps_beside first (entries ++ last ∷ []) before states d.each others;
  }

  pub settling : (v w : View) → Doubts first entries last (now v) → IsImage (now v) v.reads → Synced gate_file v w → Since (Adding first entries last (now v)) v w
  settling v w d shows s =
      let P : FileState → Type 0 = λ t. (t ≡ now v gate_file) ⊎ (t ≡ still (v.reads gate_file)) in
      since_runs gate_file P (Adding first entries last (now v)) v w (runs_synced gate_file P v w s (inl refl) (inr refl)) (λ states cases others. record {
        log = inr (⊎_elim
            (λ same. record {
              gate = λ y leaves. d.gate y (subst (λ (t : FileState). Leaves t y) same leaves);
              each = keeps_beside first (entries ++ last ∷ []) (now v) states d.each others;
            })
            (λ is. still_doubts (now v) states (v.reads gate_file) d (shows gate_file) is others)
            cases);
        others = λ g not_gate not_new. others g not_gate;
      })

  pub settled_doubts : (v w : View) → Doubts first entries last (now v) → IsImage (now v) v.reads → Synced gate_file v w → Doubts first entries last (now w)
  settled_doubts v w d shows s = still_doubts (now v) (now w) (v.reads gate_file) d (shows gate_file) s.this s.others

  pub settled_in : (v w : View) → Doubts first entries last (now v) → Synced gate_file v w → content_length (v.reads gate_file) ≡ length entries + first → Stands first (entries ++ last ∷ []) (now w)
  settled_in v w d s size = record {
    gate = v.reads gate_file;
    gate_still = s.this;
    gate_length = omega (arith, size, length-append entries (last ∷ []));
    each = keeps_beside first (entries ++ last ∷ []) (now v) (now w) d.each s.others;
  }
