-- Why a file isn't gone on with.
use Rattle.std.specs.Prelude.{◌≡◌, ℕ, List, Option, Result, Ok, ◌⊎◌}
use Rattle.chw_base.specs.Files.{Files}
use Rattle.chw_base.specs.declared.outcome.Or.{Or}
use Rattle.chw_base.specs.declared.shelf.Fetched.{Fetched}
use Rattle.chw_base.specs.declared.shelf.Fetched.TheVariants.{Whole, TooLong}
use Rattle.chw_base.specs.declared.shelf.ShelfFault.{ShelfFault}
use Rattle.chw_cli.specs.Answer.{IsUnread}
use Rattle.chw_cli.specs.Reads.{FetchGives, Gets, Wanted}
use Rattle.chw_cli.specs.declared.refusal.Refusal.{Refusal}
use Rattle.chw_cli.specs.declared.refusal.Refusal.TheVariants as refusal

-- the refusal of this file, or of the memory for its name
abbrev pub IsTold : List ℕ → Refusal → Type 0
IsTold file r = (r ≡ refusal.Read file) ⊎ (r ≡ refusal.Memory)

-- `told` are the files, where the shelf tells them, and `faults` is the count of faults
module _ {S : Type 0} (gives : FetchGives S) (told : S → Option Files) (faults : S → ℕ) where
  -- why a call of `fetch` read nothing: want of memory, or the file isn't held or couldn't be read
  pub data ReadsNothing (name : List ℕ) (limit : ℕ) (s t : S) : Refusal → Type 0 where
    memory : (answer : Result Fetched (Or ShelfFault)) (bytes : List ℕ)
        → Gets gives told faults name limit answer bytes s t
        → ReadsNothing name limit s t refusal.Memory
    unread : (answer : Result Fetched (Or ShelfFault)) (bytes : List ℕ)
        → Gets gives told faults name limit answer bytes s t → IsUnread answer
        → ReadsNothing name limit s t (refusal.Read name)

  -- why the command doesn't go on after a wanted file: nothing was read, the file is too long, or
  -- its text is wrong
  pub data RefusesFile (file : Wanted) (IsWrong : List ℕ → Refusal → Type 0) (s t : S)
      : Refusal → Type 0 where
    nothing : (r : Refusal) → ReadsNothing file.name file.limit s t r
        → RefusesFile file IsWrong s t r
    too_long : (bytes : List ℕ)
        → Gets gives told faults file.name file.limit (Ok TooLong) bytes s t
        → RefusesFile file IsWrong s t file.longer
    wrong : (text : List ℕ) (r : Refusal)
        → Gets gives told faults file.name file.limit (Ok Whole) text s t
        → IsWrong text r → RefusesFile file IsWrong s t r

  -- why a wanted file gave no text: nothing was read, or the file is too long
  abbrev pub LacksFile : Wanted → S → S → Refusal → Type 0
  LacksFile file s t = RefusesFile file (λ text r. ⊥) s t
