-- Programs that read files: what they answer, and which files they ask for.
use Rattle.std.specs.Prelude.{ℕ, List, [], ◌∷◌, ◌++◌, Some, None, Result, Ok, Err}
use Rattle.gt_disk.specs.declared.file_id.FileId.{FileId}
use Rattle.gt_disk.specs.Files.{Content as FileContent, Files}

-- a file that is damaged, and the place in it
abbrev pub Damage : Type 0
Damage = FileId × ℕ

-- A program that reads whole files one by one. Which file comes next may hang on what the files before it had.
pub data Reading (A : Type 0) : Type 0 where
  done : A → Reading A
  damaged : Damage → Reading A
  ask : FileId → (FileContent → Reading A) → Reading A

-- what it answers over these files
abbrev pub run : {A : Type 0} → Files → Reading A → Result A Damage
run files (done x) = Ok x
run files (damaged d) = Err d
run files (ask f next) = run files (next (files f))

-- the files that it asks for over these files, in order
abbrev pub asked : {A : Type 0} → Files → Reading A → List FileId
asked files (done x) = []
asked files (damaged d) = []
asked files (ask f next) = f ∷ asked files (next (files f))

-- one, and then another that hangs on what the first answered; the first damage ends both
infixl 10 ◌>>=◌
abbrev pub ◌>>=◌ : {A B : Type 0} → Reading A → (A → Reading B) → Reading B
(done x) >>= more = more x
(damaged d) >>= more = damaged d
(ask f next) >>= more = ask f (λ content. next content >>= more)

-- whatever the files have, each file that it asks for has P
abbrev pub AsksOnly : {A : Type 0} → (FileId → Type 0) → Reading A → Type 0
AsksOnly P (done x) = Unit {0}
AsksOnly P (damaged d) = Unit {0}
AsksOnly P (ask f next) = P f × ((content : FileContent) → AsksOnly P (next content))

-- ---- short programs

-- a value, or damage at a place of this file
abbrev pub parsed : {A : Type 0} → FileId → Result A ℕ → Reading A
parsed f (Ok x) = done x
parsed f (Err at) = damaged (f, at)

abbrev pub parsed_file : {A : Type 0} → FileId → (List ℕ → Result A ℕ) → FileContent → Reading A
parsed_file f grammar None = damaged (f, 0)
parsed_file f grammar (Some bytes) = parsed f (grammar bytes)

-- a file that has to be there and in its grammar
abbrev pub file_in : {A : Type 0} → FileId → (List ℕ → Result A ℕ) → Reading A
file_in f grammar = ask f (λ content. parsed_file f grammar content)

-- one step for each item, in order
abbrev pub each_in : {A B : Type 0} → (B → A → Reading B) → B → List A → Reading B
each_in step b [] = done b
each_in step b (x ∷ xs) = step b x >>= λ c. each_in step c xs

-- what a program answers for one item more
abbrev pub one_more : {A B : Type 0} → (A → Reading B) → List B → A → Reading (List B)
one_more read ys x = read x >>= λ y. done (ys ++ y ∷ [])

-- what a program answers for each item, in order
abbrev pub list_in : {A B : Type 0} → (A → Reading B) → List A → Reading (List B)
list_in read xs = each_in (one_more read) [] xs
