-- What a command answers to the texts of two files: it refuses the first of them, or it answers to both.
use Rattle.std.proofs.Common.{◌≡◌, ℕ, List, [], ◌∷◌, Result, Err, refl, subst}
use Rattle.chw_base.specs.Files.{Files}
use Rattle.chw_cli.specs.Exact.{IsHeld, Misses}
use Rattle.chw_cli.specs.Exact.Misses.{here, later}
use Rattle.chw_cli.specs.Reads.{GoesOn, Read, Wanted, whole}
use Rattle.chw_cli.specs.declared.refusal.Refusal.{Refusal}
use Rattle.chw_cli.proofs.Asking.{AreWhole, Held}
use Rattle.chw_cli.proofs.Asking.Held.{of_none, of_last, of_next}
use Rattle.chw_words.specs.declared.command.Command.{Command}

-- an answer to what was read of two files: the refusal of the first text, or an answer to both texts
pub data IsOfTwo (Answers : List Read → Result (List ℕ) Refusal → Type 0) : List Read → Result (List ℕ) Refusal → Type 0 where
  of_first : (text : List ℕ) (r : Refusal) → Answers (whole text ∷ []) (Err r) → IsOfTwo Answers (whole text ∷ []) (Err r)
  of_both : (text other : List ℕ) (answer : Result (List ℕ) Refusal) → Answers (whole text ∷ whole other ∷ []) answer
      → IsOfTwo Answers (whole text ∷ whole other ∷ []) answer

-- each answer is one of these
abbrev pub AreOfTwo : (List Read → Result (List ℕ) Refusal → Type 0) → Type 0
AreOfTwo Answers = (reads : List Read) (answer : Result (List ℕ) Refusal) → Answers reads answer → IsOfTwo Answers reads answer

-- the first of the files that were read is held, and so are the others
held_first : (files : Files) (command : Command) (file : Wanted) (wanted : List Wanted) (text : List ℕ) (reads : List Read)
    → Held files command (file ∷ wanted) (whole text ∷ reads) → IsHeld files file text × Held files command wanted reads
held_first files command file wanted text _ (of_last _ _ _ has) = (has, of_none wanted)
held_first files command file wanted text reads (of_next _ _ _ _ has on rest) = (has, rest)

one_text : (files : Files) (file : Wanted) (a b : List ℕ) → IsHeld files file a → IsHeld files file b → a ≡ b
one_text files file a b h k = let some = h.0 in let some' = k.0 in cc

-- two texts aren't refused, where the first isn't, nor both are
pub two_are_answered : (Answers : List Read → Result (List ℕ) Refusal → Type 0) → AreOfTwo Answers → (files : Files) (command : Command) (first second : Wanted)
    (text other : List ℕ) (reads : List Read) (r : Refusal) → IsHeld files first text → IsHeld files second other
    → ((r : Refusal) → Answers (whole text ∷ []) (Err r) → ⊥) → ((r : Refusal) → Answers (whole text ∷ whole other ∷ []) (Err r) → ⊥)
    → Held files command (first ∷ second ∷ []) reads → Answers reads (Err r) → ⊥
two_are_answered Answers two files command first second text other reads r has has' right taken held_reads a = by reads held_reads refl (two reads (Err r) a)
  where
    by : {answer : Result (List ℕ) Refusal} (reads : List Read) → Held files command (first ∷ second ∷ []) reads → answer ≡ Err r → IsOfTwo Answers reads answer → ⊥
    by _ h e (of_first text' q a) =
        let its = held_first files command first (second ∷ []) text' [] h in
        right q (subst (λ t. Answers (whole t ∷ []) (Err q)) (one_text files first text' text its.0 has) a)
    by _ h e (of_both text' other' answer a) =
        let its = held_first files command first (second ∷ []) text' (whole other' ∷ []) h in
        let its' = held_first files command second [] other' [] its.1 in
        taken r (subst (λ t. Answers (whole t ∷ whole other ∷ []) (Err r)) (one_text files first text' text its.0 has)
        (subst (λ t. Answers (whole text' ∷ whole t ∷ []) (Err r)) (one_text files second other' other its'.0 has')
        (subst (Answers (whole text' ∷ whole other' ∷ [])) e a)))

-- there is no answer where the first file is missing, or the second is and the command goes on after the first, whose text isn't refused
pub misses_two : (Answers : List Read → Result (List ℕ) Refusal → Type 0) → AreOfTwo Answers → (files : Files) (command : Command) (first second : Wanted)
    (reads : List Read) (answer : Result (List ℕ) Refusal)
    → ((text : List ℕ) → GoesOn command text → (r : Refusal) → Answers (whole text ∷ []) (Err r) → ⊥)
    → Misses files (GoesOn command) (first ∷ second ∷ []) → Held files command (first ∷ second ∷ []) reads → Answers reads answer → ⊥
misses_two Answers two files command first second reads answer right missing held_reads a = by reads answer missing held_reads (two reads answer a)
  where
    by : (reads : List Read) (answer : Result (List ℕ) Refusal) → Misses files (GoesOn command) (first ∷ second ∷ []) → Held files command (first ∷ second ∷ []) reads
        → IsOfTwo Answers reads answer → ⊥
    by _ _ (here _ _ none_) h (of_first text r a) =
        let some = (held_first files command first (second ∷ []) text [] h).0.0 in absurd (cc)
    by _ _ (here _ _ none_) h (of_both text other _ a) =
        let some = (held_first files command first (second ∷ []) text (whole other ∷ []) h).0.0 in absurd (cc)
    by _ _ (later _ _ text has on m) h (of_first text' r a) =
        let its = held_first files command first (second ∷ []) text' [] h in
        right text on r (subst (λ t. Answers (whole t ∷ []) (Err r)) (one_text files first text' text its.0 has) a)
    by _ _ (later _ _ text has on (here _ _ none_)) h (of_both text' other _ a) =
        let rest = (held_first files command first (second ∷ []) text' (whole other ∷ []) h).1 in
        let some = (held_first files command second [] other [] rest).0.0 in absurd (cc)
    by _ _ (later _ _ text has on (later _ _ other has' on' m)) h a = elim m [ ]

-- what is answered was read whole
pub whole_two : (Answers : List Read → Result (List ℕ) Refusal → Type 0) → AreOfTwo Answers → (reads : List Read) (answer : Result (List ℕ) Refusal)
    → Answers reads answer → AreWhole reads
whole_two Answers two reads answer a = by reads answer (two reads answer a)
  where
    by : (reads : List Read) (answer : Result (List ℕ) Refusal) → IsOfTwo Answers reads answer → AreWhole reads
    by _ _ (of_first text r a) = tt
    by _ _ (of_both text other _ a) = tt
