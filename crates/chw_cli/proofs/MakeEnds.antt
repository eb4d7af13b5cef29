-- With which statuses `make` ends.
use Rattle.std.proofs.Common.{◌≡◌, ◌⊎◌, inl, inr, refl, sym, subst, ℕ, List, Option, Result}
use Rattle.chw_base.specs.declared.outcome.Or.{Or}
use Rattle.chw_base.specs.declared.outcome.Or.TheVariants.{Memory, Fault}
use Rattle.chw_base.specs.declared.sink.SinkFault.{SinkFault}
use Rattle.chw_cli.specs.Lines.{status_of}
use Rattle.chw_cli.specs.Outcome.{Outcome, Refuses, Told, stopped}
use Rattle.chw_cli.specs.Outcome.Outcome.{answered, refused, unwritten}
use Rattle.chw_cli.specs.Outcome.Refuses.{for_memory, by_answer}
use Rattle.chw_cli.specs.Outcome.Told.{told, untold}
use Rattle.chw_cli.specs.Reads.{Read}
use Rattle.chw_cli.specs.declared.refusal.Refusal.{Refusal}
use Rattle.chw_cli.specs.declared.status.Status.{Status}
use Rattle.chw_cli.specs.declared.status.Status.TheVariants as status
use Rattle.chw_words.specs.Commands.{IsCommand}
use Rattle.chw_words.specs.declared.command.Command.TheVariants.{Make}
use Rattle.chw_cli.specs.MakeLaws.{HaveOneOfTwoStatuses, IsOfMake, WordsAreRefusedForTheProgram}

-- a refusal is told with its own status, or with that of wanting memory
abbrev pub TellsOwn : (Refusal → Status → Type 0) → Type 0
TellsOwn Tells = (r : Refusal) (s : Status) → Tells r s → (s ≡ status_of r) ⊎ (s ≡ status.Memory)

pub told_is_own : {S : Type 0} (gives : S → List ℕ → Result (Unit {0}) (Or SinkFault) → S → Type 0) (written : S → Option (List ℕ)) (faults : S → ℕ)
    (old new : S) → TellsOwn (λ r s. Told gives written faults r old new s)
told_is_own gives written faults old new r _ (told line) = inl refl
told_is_own gives written faults old new r _ (untold nothing) = inr refl

-- the status of a refusal of `make`, however it is told
of_two : (r : Refusal) (s : Status) → (status_of r ≡ status.Refused) ⊎ (status_of r ≡ status.Spent) → (s ≡ status_of r) ⊎ (s ≡ status.Memory) → IsOfMake s
of_two r s (inl two) (inl own) = subst IsOfMake (sym own) (subst IsOfMake (sym two) tt)
of_two r s (inr two) (inl own) = subst IsOfMake (sym own) (subst IsOfMake (sym two) tt)
of_two r s two (inr memory) = subst IsOfMake (sym memory) tt

of_stop : (answer : Or SinkFault) (s : Status) → (s ≡ status_of (stopped answer)) ⊎ (s ≡ status.Memory) → IsOfMake s
of_stop Memory s (inl own) = subst IsOfMake (sym own) tt
of_stop (Fault f) s (inl own) = subst IsOfMake (sym own) tt
of_stop answer s (inr memory) = subst IsOfMake (sym memory) tt

module _ (own : WordsAreRefusedForTheProgram) (two : HaveOneOfTwoStatuses) (words : List (List ℕ)) (taps : ℕ) (is : IsCommand words (Make taps)) where
  of_refusal : {Asked : List Read → Type 0} (r : Refusal) (s : Status) → Refuses Asked words r → (s ≡ status_of r) ⊎ (s ≡ status.Memory) → IsOfMake s
  of_refusal _ s (for_memory reads asked) (inl e) = subst IsOfMake (sym e) tt
  of_refusal _ s (for_memory reads asked) (inr e) = subst IsOfMake (sym e) tt
  of_refusal _ s (by_answer r answers) is_told = of_two r s (two r (own words taps answers.reads r is answers.answers)) is_told

  pub make_ends : {Asked : List Read → Type 0} {OutRose OutSame ErrSame : Type 0} {All : List ℕ → Type 0} {Part : Or SinkFault → List ℕ → Type 0}
      {Tells : Refusal → Status → Type 0} (s : Status) → TellsOwn Tells
      → Outcome Asked words OutRose OutSame ErrSame All Part Tells s → IsOfMake s
  make_ends _ tells (answered bytes answers all same) = tt
  make_ends _ tells (refused r s refuses same is_told) = of_refusal r s refuses (tells r s is_told)
  make_ends _ tells (unwritten bytes answer s answers part fault is_told) = of_stop answer s (tells (stopped answer) s is_told)
