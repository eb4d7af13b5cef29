-- What the shelf was asked says, by its files where they are told, and by its faults.
use Rattle.std.proofs.Common.{◌≡◌, ℕ, ◌<◌, List, [], ◌∷◌, length, Option, Some, None, Result, Ok, Err, inl, inr, refl, subst, ◌∙◌}
use Rattle.std.specs.Option.{IsSomeAnd}
use Rattle.chw_base.specs.Faults.{Rose}
use Rattle.chw_base.specs.Files.{Files, file_of}
use Rattle.chw_base.specs.Reading.{Fetches, HoldsIfTold}
use Rattle.chw_base.specs.declared.outcome.Or.{Or}
use Rattle.chw_base.specs.declared.shelf.Fetched.{Fetched}
use Rattle.chw_base.specs.declared.shelf.Fetched.TheVariants.{Whole, TooLong, Absent}
use Rattle.chw_base.specs.declared.shelf.ShelfFault.{ShelfFault}
use Rattle.chw_cli.specs.Answer.{IsUnread, LacksText}
use Rattle.chw_cli.specs.Answer.LacksText.{unread, too_long, later}
use Rattle.chw_cli.specs.Exact.{IsHeld, Misses}
use Rattle.chw_cli.specs.Exact.Misses.{here, later as missing_later}
use Rattle.chw_cli.specs.Reads.{Gets, GoesOn, Read, ReadsFor, Wanted, whole}
use Rattle.chw_cli.specs.Reads.Read.{fetched}
use Rattle.chw_cli.specs.Reads.ReadsFor.{none, last, next}
use Rattle.chw_cli.specs.declared.refusal.Refusal.{Refusal}
use Rattle.chw_cli.specs.declared.refusal.Refusal.TheVariants as refusal
use Rattle.chw_words.specs.declared.command.Command.{Command}

-- the command comes to a file that is longer than its limit
pub data Passes (files : Files) (command : Command) : List Wanted → Type 0 where
  longer : (file : Wanted) (wanted : List Wanted) (text : List ℕ) → file_of files file.name ≡ Some text → file.limit < length text
      → Passes files command (file ∷ wanted)
  beyond : (file : Wanted) (wanted : List Wanted) (text : List ℕ) → IsHeld files file text → GoesOn command text → Passes files command wanted
      → Passes files command (file ∷ wanted)

-- the refusal is that of a wanted file that is too long
pub data IsLonger : List Wanted → Refusal → Type 0 where
  its : (file : Wanted) (wanted : List Wanted) → IsLonger (file ∷ wanted) file.longer
  of_later : (file : Wanted) (wanted : List Wanted) (r : Refusal) → IsLonger wanted r → IsLonger (file ∷ wanted) r

-- the reads are of files that are held
pub data Held (files : Files) (command : Command) : List Wanted → List Read → Type 0 where
  of_none : (wanted : List Wanted) → Held files command wanted []
  of_last : (file : Wanted) (wanted : List Wanted) (text : List ℕ) → IsHeld files file text → Held files command (file ∷ wanted) (whole text ∷ [])
  of_next : (file : Wanted) (wanted : List Wanted) (text : List ℕ) (reads : List Read) → IsHeld files file text → GoesOn command text
      → Held files command wanted reads → Held files command (file ∷ wanted) (whole text ∷ reads)

-- each read is of a whole file
abbrev pub AreWhole : List Read → Type 0
AreWhole [] = Unit {0}
AreWhole (fetched (Ok Whole) text ∷ reads) = AreWhole reads
AreWhole (fetched _ bytes ∷ reads) = ⊥

-- why the last read gave no text
pub data Lacks (told : Option Files) (ShelfRose : Type 0) (command : Command) (wanted : List Wanted) : Refusal → Type 0 where
  missing : (name : List ℕ) → IsSomeAnd told (λ files. Misses files (GoesOn command) wanted) → Lacks told ShelfRose command wanted (refusal.Read name)
  faulty : (name : List ℕ) → ShelfRose → Lacks told ShelfRose command wanted (refusal.Read name)
  long : (r : Refusal) → IsLonger wanted r → ((files : Files) → told ≡ Some files → Passes files command wanted) → Lacks told ShelfRose command wanted r

-- what is so of the files where they are told
then_told : (told : Option Files) (P Q : Files → Type 0) → ((files : Files) → told ≡ Some files → P files → Q files) → IsSomeAnd told P → IsSomeAnd told Q
then_told (Some files) P Q f h = f files refl h
then_told None P Q f h = h

held_if_told : (told : Option Files) (name bytes : List ℕ) (files : Files) → HoldsIfTold told name bytes → told ≡ Some files → file_of files name ≡ Some bytes
held_if_told told name bytes files h e = h files e

module _ {S : Type 0} (gives : S → List ℕ → ℕ → Result Fetched (Or ShelfFault) → List ℕ → S → Type 0) (told : S → Option Files) (faults : S → ℕ) where
  -- a file that was read whole is held
  is_held : (file : Wanted) (text : List ℕ) (s t : S) (files : Files) → Gets gives told faults file.name file.limit (Ok Whole) text s t → told s ≡ Some files
      → IsHeld files file text
  is_held file text s t files g e = (held_if_told (told s) file.name text files g.fetches.1 e, g.fetches.0)

  -- one read that gave no text
  lacks_one : (command : Command) (file : Wanted) (wanted : List Wanted) (answer : Result Fetched (Or ShelfFault)) (bytes : List ℕ) (s t : S) → IsUnread answer
      → Gets gives told faults file.name file.limit answer bytes s t
      → Lacks (told s) (Rose (faults s) (faults t)) command (file ∷ wanted) (refusal.Read file.name)
  lacks_one command file wanted answer bytes s t (inl e) g =
      let absent = subst (λ a. Fetches (told s) file.name file.limit (faults s) (faults t) a bytes) e g.fetches in
      missing file.name (then_told (told s) _ _ (λ files told_is none_. here file wanted none_) absent.1)
  lacks_one command file wanted answer bytes s t (inr (f, e)) g =
      let fault = subst (λ a. Fetches (told s) file.name file.limit (faults s) (faults t) a bytes) e g.fetches in
      faulty file.name fault.2

  -- the same after a file that was read whole
  lacks_later : (command : Command) (file : Wanted) (wanted : List Wanted) (text : List ℕ) (r : Refusal) (s t u : S) → GoesOn command text
      → Gets gives told faults file.name file.limit (Ok Whole) text s t → Lacks (told t) (Rose (faults t) (faults u)) command wanted r
      → Lacks (told s) (Rose (faults s) (faults u)) command (file ∷ wanted) r
  lacks_later command file wanted text _ s t u on g (missing name m) =
      missing name (then_told (told s) _ _ (λ files e m'. missing_later file wanted text (is_held file text s t files g e) on m')
      (subst (λ o. IsSomeAnd o (λ files. Misses files (GoesOn command) wanted)) g.files m))
  lacks_later command file wanted text _ s t u on g (faulty name rose) = faulty name (subst (λ n. Rose n (faults u)) g.fetches.2 rose)
  lacks_later command file wanted text _ s t u on g (long r is passes) =
      long r (of_later file wanted r is) (λ files e. beyond file wanted text (is_held file text s t files g e) on (passes files (g.files ∙ e)))

  pub lacks : (command : Command) (wanted : List Wanted) (reads : List Read) (r : Refusal) (s t : S) → ReadsFor gives told faults command wanted s t reads
      → LacksText wanted reads r → Lacks (told s) (Rose (faults s) (faults t)) command wanted r
  lacks command _ _ r _ _ (none wanted s) l = elim l [ ]
  lacks command _ _ _ s _ (last file wanted answer bytes _ t g) (unread _ _ _ _ u) = lacks_one command file wanted answer bytes s t u g
  lacks command _ _ _ s _ (last file wanted _ bytes _ t g) (too_long _ _ _) =
      long file.longer (its file wanted) (λ files e. longer file wanted g.fetches.1.0 (held_if_told (told s) file.name g.fetches.1.0 files g.fetches.1.2 e) g.fetches.1.1)
  lacks command _ _ _ s _ (last file wanted _ bytes _ t g) (later _ _ _ _ r l) = elim l [ ]
  lacks command _ _ r s u (next file wanted text reads _ t _ g on rest) (later _ _ _ _ _ l) =
      lacks_later command file wanted text r s t u on g (lacks command wanted reads r t u rest l)
  lacks command _ _ _ s u (next file wanted text _ _ t _ g on rest) (unread _ _ _ _ (inl e)) = absurd (cc)
  lacks command _ _ _ s u (next file wanted text _ _ t _ g on rest) (unread _ _ _ _ (inr (f, e))) = absurd (cc)

  -- whole files that were read are held
  pub held : (command : Command) (wanted : List Wanted) (reads : List Read) (s t : S) → ReadsFor gives told faults command wanted s t reads → AreWhole reads
      → (files : Files) → told s ≡ Some files → Held files command wanted reads
  held command wanted _ s _ (none _ _) w files e = of_none wanted
  held command _ _ s _ (last file wanted (Ok Whole) bytes _ t g) w files e = of_last file wanted bytes (is_held file bytes s t files g e)
  held command _ _ s _ (last file wanted (Ok TooLong) bytes _ t g) w files e = absurd w
  held command _ _ s _ (last file wanted (Ok Absent) bytes _ t g) w files e = absurd w
  held command _ _ s _ (last file wanted (Err x) bytes _ t g) w files e = absurd w
  held command _ _ s u (next file wanted text reads _ t _ g on rest) w files e =
      of_next file wanted text reads (is_held file text s t files g e) on (held command wanted reads t u rest w files (g.files ∙ e))

-- what a call of `fetch` did, under another word for the name and the answer
pub gets : {S : Type 0} (gives : S → List ℕ → ℕ → Result Fetched (Or ShelfFault) → List ℕ → S → Type 0) (told : S → Option Files) (faults : S → ℕ)
    (limit : ℕ) (name other : List ℕ) (answer wanted : Result Fetched (Or ShelfFault)) (bytes : List ℕ) (s t : S) → name ≡ other → answer ≡ wanted
    → gives s name limit answer bytes t → told t ≡ told s → Fetches (told s) name limit (faults s) (faults t) answer bytes
    → Gets gives told faults other limit wanted bytes s t
gets gives told faults limit name other answer wanted bytes s t same e g files f =
    subst (λ n. Gets gives told faults n limit wanted bytes s t) same
    (subst (λ a. Gets gives told faults name limit a bytes s t) e (record { call = g; files = files; fetches = f }))
