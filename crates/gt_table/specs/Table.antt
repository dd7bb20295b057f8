-- The entries of a log past a base, with the tables of what base and log have made.
use Rattle.std.specs.Prelude.{◌≡◌, ℕ, ◌+◌, ◌-◌, ◌<◌, ◌≤◌, List, length, drop, Option}
use Rattle.std.specs.Coded.{Coded, code_by, coded×, coded_ℕ, coded_list}
use Rattle.std.proofs.Common.{refl}
use Rattle.gt_base.specs.declared.held.BaseRepo.{BaseRepo}
use Rattle.gt_base.specs.contracts.held.BaseRepo as repo
use Rattle.gt_base.specs.Held.{content_of, places_of}
use Rattle.gt_model.specs.contracts.entry.Entry as entry
use Rattle.gt_model.specs.declared.entry.Entry.{Entry}
use Rattle.gt_model.specs.Contents.{Content, after_all, at}
use Rattle.gt_objset.specs.Agree as objects
use Rattle.gt_objset.specs.Places.{head_in, seen, places_at}
use Rattle.gt_objset.specs.Table as objects_table
use Rattle.gt_objset.specs.declared.place.Place.{Place}
use Rattle.gt_reftable.specs.Agree as refs
use Rattle.gt_reftable.specs.Table as refs_table

-- the position of a base, what its files had as they were read, and the entries past it
pub record Past : Type 0 where
  pub begin : ℕ
  pub repos : List BaseRepo
  pub log : List Entry

-- the content of the base
abbrev pub base : Past → Content
base p = content_of p.repos

-- the position of the last entry
abbrev pub front : Past → ℕ
front p = p.begin + length p.log

-- the content at the front
abbrev pub content : Past → Content
content p = after_all (base p) p.log

-- the content at a position from the base on
abbrev pub content_at : Past → ℕ → Content
content_at p position = at p.begin (base p) p.log position

-- the entries past a position
abbrev pub entries_past : Past → ℕ → List Entry
entries_past p position = drop (position - p.begin) p.log

-- the place of the record that is seen under a name in a repository at a position, where none was moved
abbrev pub place_at : Past → ℕ → List ℕ → List ℕ → Option Place
place_at p position path name = seen (head_in (content_at p position) path) (places_at p.begin (base p) (places_of p.repos) p.log position) path name

-- what clauses see: base and log, how many of its entries memory has no more, for how many more there is room, and the two tables
pub record Tables : Type 0 where
  pub past : Past
  pub gone : ℕ
  pub room : ℕ
  pub refs : refs_table.Table
  pub objects : objects_table.Table

abbrev pub past_code : Coded Past
past_code = code_by (ℕ × (List BaseRepo × List Entry)) (coded× coded_ℕ (coded× (coded_list repo.the_row.coded) (coded_list entry.the_row.coded))) (λ p. (p.begin, (p.repos, p.log))) (λ q. record { begin = q.0; repos = q.1.0; log = q.1.1 }) (λ _. refl)

abbrev pub tables_code : Coded Tables
tables_code =
    code_by ((Past × (ℕ × ℕ)) × (refs_table.Table × objects_table.Table)) (coded× (coded× past_code (coded× coded_ℕ coded_ℕ)) (coded× refs_table.table_code objects_table.table_code))
    (λ t. ((t.past, (t.gone, t.room)), (t.refs, t.objects))) (λ p. record { past = p.0.0; gone = p.0.1.0; room = p.0.1.1; refs = p.1.0; objects = p.1.1 }) (λ _. refl)

-- the position from which on both tables answer
abbrev pub floor : Tables → ℕ
floor t = t.past.begin + t.gone

-- Both tables begin behind the entries that memory has no more, and agree with the content at each position from there on.
pub record Follow (t : Tables) : Type 0 where
  pub within : t.gone ≤ length t.past.log
  pub refs_floor : t.refs.floor ≡ floor t
  pub objects_floor : t.objects.floor ≡ floor t
  pub refs : refs.Agrees t.refs (content_at t.past (floor t)) (entries_past t.past (floor t))
  pub objects : objects.Agrees t.objects (content_at t.past (floor t)) (entries_past t.past (floor t))

-- Memory has all entries, and each record of an own object stands where the base has it, or in the file of its entry.
pub record IsUnmoved (t : Tables) : Type 0 where
  pub whole : t.gone ≡ 0
  pub placed : objects.ArePlacedBy t.objects (base t.past) (places_of t.past.repos) t.past.log

-- All memory of adding this entry is taken.
pub record HasRoomFor (entry : Entry) (t : Tables) : Type 0 where
  pub entries : 0 < t.room
  pub refs : refs_table.IsPrepared t.refs entry
  pub objects : objects_table.IsPrepared t.objects entry
