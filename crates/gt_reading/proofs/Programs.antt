-- What a program answers and asks for goes by the files that it asks for.
use Rattle.std.proofs.Common.{◌≡◌, ℕ, List, [], ◌∷◌, ◌++◌, Some, None, Result, Ok, Err, refl, ◌∙◌, ap}
use Rattle.std.specs.List.{AllByRecursion}
use Rattle.gt_disk.specs.declared.file_id.FileId.{FileId}
use Rattle.gt_disk.specs.Files.{Content as FileContent, Files}
use Rattle.gt_reading.specs.Reading.{Damage, Reading, done, damaged, ask, run, asked, ◌>>=◌, AsksOnly, parsed, parsed_file, file_in, each_in}

pub agree : {A : Type 0} (r : Reading A) (a b : Files) → AllByRecursion (λ f. b f ≡ a f) (asked a r) → (run b r ≡ run a r) × (asked b r ≡ asked a r)
agree (done x) a b same = (refl, refl)
agree (damaged d) a b same = (refl, refl)
agree (ask f next) a b same =
    let rest = agree (next (a f)) a b same.1 in
    (ap (λ x. run b (next x)) same.0 ∙ rest.0, ap (λ x. f ∷ asked b (next x)) same.0 ∙ ap (λ fs. f ∷ fs) rest.1)

-- ---- one program after another

pub run_then : {A B : Type 0} (r : Reading A) (more : A → Reading B) (files : Files) (x : A) → run files r ≡ Ok x → run files (r >>= more) ≡ run files (more x)
run_then (done y) more files x is = let same : y ≡ x = cc (is) in ap (λ z. run files (more z)) same
run_then (damaged d) more files x is = absurd (cc (is))
run_then (ask f next) more files x is = run_then (next (files f)) more files x is

pub run_damaged : {A B : Type 0} (r : Reading A) (more : A → Reading B) (files : Files) (d : Damage) → run files r ≡ Err d → run files (r >>= more) ≡ Err d
run_damaged (done y) more files d is = absurd (cc (is))
run_damaged (damaged e) more files d is = let same : e ≡ d = cc (is) in ap Err same
run_damaged (ask f next) more files d is = run_damaged (next (files f)) more files d is

pub asked_then : {A B : Type 0} (r : Reading A) (more : A → Reading B) (files : Files) (x : A) → run files r ≡ Ok x → asked files (r >>= more) ≡ asked files r ++ asked files (more x)
asked_then (done y) more files x is = let same : y ≡ x = cc (is) in ap (λ z. asked files (more z)) same
asked_then (damaged d) more files x is = absurd (cc (is))
asked_then (ask f next) more files x is = ap (λ fs. f ∷ fs) (asked_then (next (files f)) more files x is)

-- ---- files that are asked for whatever the others have

pub asks_only : {A : Type 0} (P : FileId → Type 0) (r : Reading A) (files : Files) → AsksOnly P r → AllByRecursion P (asked files r)
asks_only P (done x) files only = tt
asks_only P (damaged d) files only = tt
asks_only P (ask f next) files only = (only.0, asks_only P (next (files f)) files (only.1 (files f)))

module _ (P : FileId → Type 0) where
  pub only_then : {A B : Type 0} (r : Reading A) (more : A → Reading B) → AsksOnly P r → ((x : A) → AsksOnly P (more x)) → AsksOnly P (r >>= more)
  only_then (done x) more only next = next x
  only_then (damaged d) more only next = tt
  only_then (ask f go_on) more only next = (only.0, λ content. only_then (go_on content) more (only.1 content) next)

  only_parsed : {A : Type 0} (f : FileId) (read : Result A ℕ) → AsksOnly P (parsed f read)
  only_parsed f (Ok x) = tt
  only_parsed f (Err at) = tt

  only_content : {A : Type 0} (f : FileId) (grammar : List ℕ → Result A ℕ) (content : FileContent) → AsksOnly P (parsed_file f grammar content)
  only_content f grammar None = tt
  only_content f grammar (Some bytes) = only_parsed f (grammar bytes)

  pub only_file : {A : Type 0} (f : FileId) (grammar : List ℕ → Result A ℕ) → P f → AsksOnly P (file_in f grammar)
  only_file f grammar has = (has, only_content f grammar)

  pub only_each : {A B : Type 0} (step : B → A → Reading B) → ((b : B) (a : A) → AsksOnly P (step b a)) → (b : B) (xs : List A) → AsksOnly P (each_in step b xs)
  only_each step only b [] = tt
  only_each step only b (x ∷ xs) = only_then (step b x) (λ c. each_in step c xs) (only b x) (λ c. only_each step only c xs)

-- ---- lists of answers

pub every_weaker : {A : Type 0} (P Q : A → Type 0) → ((x : A) → P x → Q x) → (xs : List A) → AllByRecursion P xs → AllByRecursion Q xs
every_weaker P Q f [] h = tt
every_weaker P Q f (x ∷ xs) h = (f x h.0, every_weaker P Q f xs h.1)

-- what answers after another answered is of both
pub record Split {A B : Type 0} (r : Reading A) (more : A → Reading B) (files : Files) (y : B) : Type 0 where
  pub first : A
  pub first_is : run files r ≡ Ok first
  pub then_is : run files (more first) ≡ Ok y
  pub asks : asked files (r >>= more) ≡ asked files r ++ asked files (more first)

pub split : {A B : Type 0} (r : Reading A) (more : A → Reading B) (files : Files) (y : B) → run files (r >>= more) ≡ Ok y → Split r more files y
split (done x) more files y is = record { first = x; first_is = refl; then_is = is; asks = refl }
split (damaged d) more files y is = absurd (cc (is))
split (ask f next) more files y is =
    let s = split (next (files f)) more files y is in
    record { first = s.first; first_is = s.first_is; then_is = s.then_is; asks = ap (λ fs. f ∷ fs) s.asks }

-- ---- what an answer is made of

abbrev pub mapped : {A B : Type 0} → (A → B) → Result A Damage → Result B Damage
mapped f (Ok x) = Ok (f x)
mapped f (Err d) = Err d

pub run_mapped : {A B : Type 0} (f : A → B) (r : Reading A) (files : Files) → run files (r >>= λ x. done (f x)) ≡ mapped f (run files r)
run_mapped f (done x) files = refl
run_mapped f (damaged d) files = refl
run_mapped f (ask g next) files = run_mapped f (next (files g)) files

-- ---- one file

asks_parsed : {A : Type 0} (f : FileId) (read : Result A ℕ) (files : Files) → asked files (parsed f read) ≡ []
asks_parsed f (Ok x) files = refl
asks_parsed f (Err at) files = refl

asks_content : {A : Type 0} (f : FileId) (grammar : List ℕ → Result A ℕ) (content : FileContent) (files : Files) → asked files (parsed_file f grammar content) ≡ []
asks_content f grammar None files = refl
asks_content f grammar (Some bytes) files = asks_parsed f (grammar bytes) files

pub asks_file : {A : Type 0} (f : FileId) (grammar : List ℕ → Result A ℕ) (files : Files) → asked files (file_in f grammar) ≡ f ∷ []
asks_file f grammar files = ap (λ fs. f ∷ fs) (asks_content f grammar (files f) files)

gives_parsed : {A : Type 0} (f : FileId) (read : Result A ℕ) (files : Files) (x : A) → run files (parsed f read) ≡ Ok x → read ≡ Ok x
gives_parsed f (Ok y) files x is = let same : y ≡ x = cc (is) in ap Ok same
gives_parsed f (Err at) files x is = absurd (cc (is))

gives_content : {A : Type 0} (f : FileId) (grammar : List ℕ → Result A ℕ) (content : FileContent) (files : Files) (x : A) → run files (parsed_file f grammar content) ≡ Ok x → (bytes : List ℕ) × (content ≡ Some bytes) × (grammar bytes ≡ Ok x)
gives_content f grammar None files x is = absurd (cc (is))
gives_content f grammar (Some bytes) files x is = (bytes, refl, gives_parsed f (grammar bytes) files x is)

-- a file that was read is there in its grammar
pub gives_file : {A : Type 0} (f : FileId) (grammar : List ℕ → Result A ℕ) (files : Files) (x : A) → run files (file_in f grammar) ≡ Ok x → (bytes : List ℕ) × (files f ≡ Some bytes) × (grammar bytes ≡ Ok x)
gives_file f grammar files x is = gives_content f grammar (files f) files x is
