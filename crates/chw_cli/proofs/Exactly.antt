-- How a run of the program ends says why it ended so.
use Rattle.std.proofs.Common.{◌≡◌, ℕ, List, [], length, Option, Some, Result, Ok, Err, ◌⊎◌, inl, inr, refl, ap, sym, subst, ◌∙◌, arith}
use Rattle.std.specs.Option.{IsSomeAnd}
use Rattle.chw_base.specs.Files.{Files, file_of}
use Rattle.chw_base.specs.Outcome.{OfFault}
use Rattle.chw_base.specs.Faults.{Rose}
use Rattle.chw_base.specs.declared.outcome.Or.{Or}
use Rattle.chw_base.specs.declared.outcome.Or.TheVariants.{Memory, Fault}
use Rattle.chw_base.specs.declared.shelf.Fetched.{Fetched}
use Rattle.chw_base.specs.declared.shelf.ShelfFault.{ShelfFault}
use Rattle.chw_base.specs.declared.sink.SinkFault.{SinkFault}
use Rattle.chw_cli.specs.Answer.{Answer, CommandAnswer, LacksText}
use Rattle.chw_cli.specs.Answer.Answer.{no_command, no_text, texts as of_texts}
use Rattle.chw_cli.specs.Exact.{AreHeld, BreakNothing, Ends, IsExact, Misses}
use Rattle.chw_cli.specs.Exact.AreHeld.{more}
use Rattle.chw_cli.specs.Exact.Misses.{here, later}
use Rattle.chw_cli.specs.Lines.{status_of}
use Rattle.chw_cli.specs.Outcome.{AnswersBy, Outcome, Told, stopped}
use Rattle.chw_cli.specs.Outcome.Outcome.{answered, refused, unwritten}
use Rattle.chw_cli.specs.Outcome.Told.{told as was_told, untold as was_untold}
use Rattle.chw_cli.specs.Outcome.Refuses.{for_memory, by_answer}
use Rattle.chw_cli.specs.Reads.{Asks, GoesOn, Read, ReadsFor, Wanted, wants}
use Rattle.chw_cli.specs.Reads.Asks.{uncalled, called}
use Rattle.chw_cli.specs.declared.refusal.Refusal.{Refusal}
use Rattle.chw_cli.specs.declared.refusal.Refusal.TheVariants as refusal
use Rattle.chw_cli.specs.declared.status.Status.{Status}
use Rattle.chw_cli.specs.declared.status.Status.TheVariants as status
use Rattle.chw_cli.proofs.Asking.{Held, Lacks, Passes, held, lacks}
use Rattle.chw_cli.proofs.Asking.Held.{of_none}
use Rattle.chw_cli.proofs.Asking.Lacks.{missing, faulty, long}
use Rattle.chw_cli.proofs.Asking.Passes.{longer, beyond}
use Rattle.chw_words.specs.Commands.{IsCommand, AreNoCommand}
use Rattle.chw_words.specs.declared.command.Command.{Command}
use Rattle.chw_cli.proofs.Commands.{IsOwn, NoAnswer, NotRefused, answers_whole, command_status, longer_status}

-- words are at most one command
abbrev pub OneCommand : Type 0
OneCommand = (words : List (List ℕ)) (a b : Command) → IsCommand words a → IsCommand words b → a ≡ b

-- a file that is missed isn't held, nor too long
misses_held : (files : Files) (On : List ℕ → Type 0) (wanted : List Wanted) (texts : List (List ℕ)) → Misses files On wanted → AreHeld files wanted texts → ⊥
misses_held files On _ _ (here _ _ none_) (more _ _ text _ has rest) = let some = has.0 in absurd (cc)
misses_held files On _ _ (later _ wanted _ _ _ m) (more _ _ text texts has rest) = misses_held files On wanted texts m rest

same_text : (files : Files) (file : Wanted) (a b : List ℕ) → file_of files file.name ≡ Some a → file_of files file.name ≡ Some b → length a ≡ length b
same_text files file a b e f = let is : a ≡ b = cc in ap length is

passes_held : (files : Files) (command : Command) (wanted : List Wanted) (texts : List (List ℕ)) → Passes files command wanted → AreHeld files wanted texts → ⊥
passes_held files command _ _ (longer file _ text some over) (more _ _ other _ has rest) =
    let same = same_text files file text other some has.0 in let within = has.1 in absurd (omega (arith, same, within, over))
passes_held files command _ _ (beyond _ wanted _ _ _ p) (more _ _ text texts has rest) = passes_held files command wanted texts p rest

misses_passes : (files : Files) (On : List ℕ → Type 0) (command : Command) (wanted : List Wanted) → Misses files On wanted
    → Passes files command wanted → ⊥
misses_passes files On command _ (here _ _ none_) (longer file _ text some over) = absurd (cc)
misses_passes files On command _ (here _ _ none_) (beyond _ _ text has _ p) = let some = has.0 in absurd (cc)
misses_passes files On command _ (later _ _ other has _ m) (longer file _ text some over) =
    let same = same_text files file text other some has.0 in let within = has.1 in absurd (omega (arith, same, within, over))
misses_passes files On command _ (later _ wanted _ _ _ m) (beyond _ _ _ _ _ p) = misses_passes files On command wanted m p

module _ (told : Option Files) (words : List (List ℕ)) (ShelfRose : Type 0) where
  -- what an answer is by: the words are no command, or what was read for their command
  pub data Cause (answer : Result (List ℕ) Refusal) : Type 0 where
    for_words : AreNoCommand words → answer ≡ Err refusal.Words → Cause answer
    for_file : (command : Command) (r : Refusal) → IsCommand words command → Lacks told ShelfRose command (wants command) r → answer ≡ Err r
        → Cause answer
    for_texts : (command : Command) (reads : List Read) → IsCommand words command
        → ((files : Files) → told ≡ Some files → Held files command (wants command) reads) → CommandAnswer command reads answer → Cause answer

lacks_nothing : (wanted : List Wanted) (r : Refusal) → LacksText wanted [] r → ⊥
lacks_nothing wanted r l = elim l [ ]

module _ {S : Type 0} (gives : S → List ℕ → ℕ → Result Fetched (Or ShelfFault) → List ℕ → S → Type 0) (told : S → Option Files) (faults : S → ℕ)
    (words : List (List ℕ)) (s t : S) (once : OneCommand) where
  pub cause : (reads : List Read) (answer : Result (List ℕ) Refusal) → Asks gives told faults words s t reads → Answer words reads answer
      → Cause (told s) words (Rose (faults s) (faults t)) answer
  cause _ _ asked (no_command h) = for_words h refl
  cause _ _ (called other reads is' q) (no_text command _ r is l) =
      let same = once words other command is' is in
      for_file command r is
      (lacks gives told faults command (wants command) reads r s t (subst (λ c. ReadsFor gives told faults c (wants c) s t reads) same q) l) refl
  cause _ answer (called other reads is' q) (of_texts command _ _ is a) =
      let same = once words other command is' is in
      for_texts command reads is
      (held gives told faults command (wants command) reads s t (subst (λ c. ReadsFor gives told faults c (wants c) s t reads) same q)
      (answers_whole command reads answer a)) a
  cause _ answer (uncalled e) (of_texts command _ _ is a) =
      for_texts command [] is (λ files is_told. of_none (wants command)) a
  cause _ _ (uncalled e) (no_text command _ r is l) = absurd (lacks_nothing (wants command) r l)

module _ (told : Option Files) (words : List (List ℕ)) (ShelfRose OutRose : Type 0) where
  -- why a run ends with this status
  pub data Reason (s : Status) : Type 0 where
    ok : (bytes : List ℕ) → Cause told words ShelfRose (Ok bytes) → s ≡ status.Ok → Reason s
    refusal_ : (r : Refusal) → Cause told words ShelfRose (Err r) → s ≡ status_of r → Reason s
    write : (bytes : List ℕ) → Cause told words ShelfRose (Ok bytes) → OutRose → s ≡ status.Write → Reason s
    memory : s ≡ status.Memory → Reason s

module _ (told : Option Files) (words : List (List ℕ)) (ShelfRose OutRose OutSame ErrSame : Type 0) (Asked : List Read → Type 0) (All : List ℕ → Type 0)
    (Part : Or SinkFault → List ℕ → Type 0) (Tells : Refusal → Status → Type 0)
    (says : (reads : List Read) (answer : Result (List ℕ) Refusal) → Asked reads → Answer words reads answer → Cause told words ShelfRose answer)
    (tells : (r : Refusal) (s : Status) → Tells r s → Ends (status_of r) s) where
  cause_of : (answer : Result (List ℕ) Refusal) → AnswersBy Asked words answer → Cause told words ShelfRose answer
  cause_of answer a = says a.reads answer a.asked a.answers

  pub reason : (s : Status) → Outcome Asked words OutRose OutSame ErrSame All Part Tells s → Reason told words ShelfRose OutRose s
  reason _ (answered bytes a all same) = ok bytes (cause_of (Ok bytes) a) refl
  reason s (refused _ _ (for_memory reads asked) same t) = ended (tells refusal.Memory s t)
    where
      ended : Ends status.Memory s → Reason told words ShelfRose OutRose s
      ended (inl e) = memory e
      ended (inr e) = memory e
  reason s (refused _ _ (by_answer r a) same t) = ended (tells r s t)
    where
      ended : Ends (status_of r) s → Reason told words ShelfRose OutRose s
      ended (inl e) = refusal_ r (cause_of (Err r) a) e
      ended (inr e) = memory e
  reason s (unwritten bytes answer _ a part rose t) = ended answer rose (tells (stopped answer) s t)
    where
      ended : (answer : Or SinkFault) → OfFault answer (λ _. OutRose) → Ends (status_of (stopped answer)) s → Reason told words ShelfRose OutRose s
      ended Memory rose (inl e) = memory e
      ended Memory rose (inr e) = memory e
      ended (Fault f) rose (inl e) = write bytes (cause_of (Ok bytes) a) rose e
      ended (Fault f) rose (inr e) = memory e

module _ (told : Option Files) (words : List (List ℕ)) (ShelfRose OutRose : Type 0) (once : OneCommand) (answered_ : NotRefused) (unanswered : NoAnswer)
    (s : Status) where
  -- what lacks its text is refused with its own status, or that of a read
  lacks_status : (command : Command) (r : Refusal) → Lacks told ShelfRose command (wants command) r → (status_of r ≡ status.Read) ⊎ IsOwn (status_of r)
  lacks_status command _ (missing name m) = inl refl
  lacks_status command _ (faulty name rose) = inl refl
  lacks_status command r (long _ is passes) = inr (longer_status command r is)

  -- the status of an answer to words that are a command
  cause_status : (r : Refusal) → Cause told words ShelfRose (Err r) → (AreNoCommand words × (status_of r ≡ status.Words)) ⊎ (status_of r ≡ status.Read) ⊎ IsOwn (status_of r)
  cause_status r (for_words h r_is) = let q : r ≡ refusal.Words = cc in inl (h, ap status_of q)
  cause_status r (for_file command q h l r_is) =
      let same : q ≡ r = cc in inr (subst (λ x. (status_of x ≡ status.Read) ⊎ IsOwn (status_of x)) same (lacks_status command q l))
  cause_status r (for_texts command reads h held_reads a) = inr (inr (command_status command reads r a))

  own_is_not : (r : Refusal) (t : Status) → (IsOwn t → ⊥) → s ≡ status_of r → s ≡ t → IsOwn (status_of r) → ⊥
  own_is_not r t never e is own = never (subst IsOwn (sym e ∙ is) own)

  words_wrong : Reason told words ShelfRose OutRose s → s ≡ status.Words → AreNoCommand words
  words_wrong (ok bytes c e) is = absurd (cc)
  words_wrong (refusal_ r c e) is = by (cause_status r c)
    where
      by : (AreNoCommand words × (status_of r ≡ status.Words)) ⊎ (status_of r ≡ status.Read) ⊎ IsOwn (status_of r) → AreNoCommand words
      by (inl h) = h.0
      by (inr (inl read)) = absurd (cc)
      by (inr (inr own)) = absurd (own_is_not r status.Words (λ no. no) e is own)
  words_wrong (write bytes c rose e) is = absurd (cc)
  words_wrong (memory e) is = absurd (cc)

  wrong_words : Reason told words ShelfRose OutRose s → AreNoCommand words → Ends status.Words s
  wrong_words (ok bytes (for_words h e') e) never = absurd (cc)
  wrong_words (ok bytes (for_file command r h l e') e) never = absurd (never command h)
  wrong_words (ok bytes (for_texts command reads h held_reads a) e) never = absurd (never command h)
  wrong_words (refusal_ r (for_words h r_is) e) never = let q : r ≡ refusal.Words = cc in inl (e ∙ ap status_of q)
  wrong_words (refusal_ r (for_file command q h l r_is) e) never = absurd (never command h)
  wrong_words (refusal_ r (for_texts command reads h held_reads a) e) never = absurd (never command h)
  wrong_words (write bytes (for_words h e') rose e) never = absurd (cc)
  wrong_words (write bytes (for_file command r h l e') rose e) never = absurd (never command h)
  wrong_words (write bytes (for_texts command reads h held_reads a) rose e) never = absurd (never command h)
  wrong_words (memory e) never = inr e

  unread : Reason told words ShelfRose OutRose s → s ≡ status.Read
      → (command : Command) × IsCommand words command × (IsSomeAnd told (λ files. Misses files (GoesOn command) (wants command)) ⊎ ShelfRose)
  unread (ok bytes c e) is = absurd (cc)
  unread (refusal_ r (for_words h r_is) e) is = let q : r ≡ refusal.Words = cc in let st = ap status_of q in absurd (cc)
  unread (refusal_ r (for_file command _ h (missing name m) r_is) e) is = (command, h, inl m)
  unread (refusal_ r (for_file command _ h (faulty name rose) r_is) e) is = (command, h, inr rose)
  unread (refusal_ r (for_file command q h (long _ longer_ passes) r_is) e) is =
      let same : q ≡ r = cc in absurd (own_is_not r status.Read (λ no. no) e is (subst (λ x. IsOwn (status_of x)) same (longer_status command q longer_)))
  unread (refusal_ r (for_texts command reads h held_reads a) e) is = absurd (own_is_not r status.Read (λ no. no) e is (command_status command reads r a))
  unread (write bytes c rose e) is = absurd (cc)
  unread (memory e) is = absurd (cc)

  -- a command that comes to a file that isn't held has no answer but the refusal of a read
  no_other : (files : Files) (command other : Command) (reads : List Read) (answer : Result (List ℕ) Refusal) → told ≡ Some files → IsCommand words command
      → Misses files (GoesOn command) (wants command) → IsCommand words other → ((files : Files) → told ≡ Some files → Held files other (wants other) reads)
      → CommandAnswer other reads answer → ⊥
  no_other files command other reads answer t is m is' held_reads a =
      unanswered files other reads answer (subst (λ c. Misses files (GoesOn c) (wants c)) (once words command other is is') m) (held_reads files t) a

  not_longer : (files : Files) (command other : Command) → told ≡ Some files → IsCommand words command
      → Misses files (GoesOn command) (wants command) → IsCommand words other → ((files : Files) → told ≡ Some files → Passes files other (wants other)) → ⊥
  not_longer files command other t is m is' passes =
      misses_passes files (GoesOn other) other (wants other) (subst (λ c. Misses files (GoesOn c) (wants c)) (once words command other is is') m) (passes files t)

  absent : Reason told words ShelfRose OutRose s → (files : Files) (command : Command) → told ≡ Some files → IsCommand words command
      → Misses files (GoesOn command) (wants command) → Ends status.Read s
  absent (ok bytes (for_words h e') e) files command t is m = absurd (cc)
  absent (ok bytes (for_file other r h l e') e) files command t is m = absurd (cc)
  absent (ok bytes (for_texts other reads h held_reads a) e) files command t is m = absurd (no_other files command other reads (Ok bytes) t is m h held_reads a)
  absent (refusal_ r (for_words h r_is) e) files command t is m = absurd (h command is)
  absent (refusal_ r (for_file other _ h (missing name _) r_is) e) files command t is m = let q : r ≡ refusal.Read name = cc in inl (e ∙ ap status_of q)
  absent (refusal_ r (for_file other _ h (faulty name _) r_is) e) files command t is m = let q : r ≡ refusal.Read name = cc in inl (e ∙ ap status_of q)
  absent (refusal_ r (for_file other _ h (long _ _ passes) r_is) e) files command t is m = absurd (not_longer files command other t is m h passes)
  absent (refusal_ r (for_texts other reads h held_reads a) e) files command t is m = absurd (no_other files command other reads (Err r) t is m h held_reads a)
  absent (write bytes (for_words h e') rose e) files command t is m = absurd (cc)
  absent (write bytes (for_file other r h l e') rose e) files command t is m = absurd (cc)
  absent (write bytes (for_texts other reads h held_reads a) rose e) files command t is m = absurd (no_other files command other reads (Ok bytes) t is m h held_reads a)
  absent (memory e) files command t is m = inr e

  unwritten_ends : Reason told words ShelfRose OutRose s → s ≡ status.Write → OutRose
  unwritten_ends (ok bytes c e) is = absurd (cc)
  unwritten_ends (refusal_ r c e) is = by (cause_status r c)
    where
      by : (AreNoCommand words × (status_of r ≡ status.Words)) ⊎ (status_of r ≡ status.Read) ⊎ IsOwn (status_of r) → OutRose
      by (inl h) = let st = h.1 in absurd (cc)
      by (inr (inl read)) = absurd (cc)
      by (inr (inr own)) = absurd (own_is_not r status.Write (λ no. no) e is own)
  unwritten_ends (write bytes c rose e) is = rose
  unwritten_ends (memory e) is = absurd (cc)

  complete : Reason told words ShelfRose OutRose s → (files : Files) (command : Command) (texts : List (List ℕ)) → told ≡ Some files
      → IsCommand words command → AreHeld files (wants command) texts → BreakNothing command texts → (ShelfRose → ⊥) → (OutRose → ⊥) → Ends status.Ok s
  complete (ok bytes c e) files command texts t is has b shelf out = inl e
  complete (refusal_ r (for_words h r_is) e) files command texts t is has b shelf out = absurd (h command is)
  complete (refusal_ r (for_file other _ h (missing name m) r_is) e) files command texts t is has b shelf out =
      let m' = subst (λ o. IsSomeAnd o (λ files. Misses files (GoesOn other) (wants other))) t m in
      absurd (misses_held files (GoesOn other) (wants other) texts m' (subst (λ c. AreHeld files (wants c) texts) (once words command other is h) has))
  complete (refusal_ r (for_file other _ h (faulty name rose) r_is) e) files command texts t is has b shelf out = absurd (shelf rose)
  complete (refusal_ r (for_file other _ h (long _ _ passes) r_is) e) files command texts t is has b shelf out =
      absurd (passes_held files other (wants other) texts (passes files t) (subst (λ c. AreHeld files (wants c) texts) (once words command other is h) has))
  complete (refusal_ r (for_texts other reads h held_reads a) e) files command texts t is has b shelf out =
      let same = once words command other is h in
      absurd (answered_ files other texts reads r (subst (λ c. AreHeld files (wants c) texts) same has) (subst (λ c. BreakNothing c texts) same b) (held_reads files t) a)
  complete (write bytes c rose e) files command texts t is has b shelf out = absurd (out rose)
  complete (memory e) files command texts t is has b shelf out = inr e

  pub exact_by : Reason told words ShelfRose OutRose s → IsExact told words ShelfRose OutRose s
  exact_by r = record {
    words_wrong = words_wrong r;
    wrong_words = wrong_words r;
    unread = unread r;
    absent = absent r;
    unwritten = unwritten_ends r;
    complete = complete r;
  }

-- a refusal that was told ends with its status
pub told_ends : {S : Type 0} (gives : S → List ℕ → Result (Unit {0}) (Or SinkFault) → S → Type 0) (written : S → Option (List ℕ)) (faults : S → ℕ) (s t : S)
    (r : Refusal) (end : Status) → Told gives written faults r s t end → Ends (status_of r) end
told_ends gives written faults s t r _ (was_told line) = inl refl
told_ends gives written faults s t r _ (was_untold nothing) = inr refl
