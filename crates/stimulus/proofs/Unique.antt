-- A text has one answer.
use Rattle.std.proofs.Common.{◌≡◌, ℕ, suc, zero-add, ◌+◌, ◌≤◌, List, [], ◌∷◌, ◌++◌, length, inl, inr, refl, sym, ap, ◌∙◌, subst, arith}
use Rattle.std.specs.List.{AllByRecursion}
use Rattle.std.proofs.lemmas.List.{length-append, length-replicate}
use Rattle.chw_base.specs.declared.limits.TheConstants.{EVENTS}
use Rattle.chw_clock.specs.declared.event.Event.{Event}
use Rattle.chw_clock.specs.declared.event.Ports.{Ports}
use Rattle.stimulus.specs.Stimulus.{IsBroken, IsFaultOf, IsRight, IsStimFault, Stim, count_of, event_of, events_of, line_events}
use Rattle.stimulus.specs.declared.fault.StimCode.{StimCode}
use Rattle.stimulus.specs.declared.fault.StimCode.TheVariants.{S01, S02, S03, S05}
use Rattle.stimulus.specs.declared.fault.StimFault.{StimFault}

-- a right line isn't broken
right_line : (ports : Ports) (line : List ℕ) (code : StimCode) → IsRight ports line → IsBroken ports line code → ⊥
right_line ports line S01 right broken = broken right.0
right_line ports line S02 right broken = broken.1 right.1
right_line ports line S03 right broken = broken.2 right.2
right_line ports line S05 right broken = broken

-- a line is broken in one way
one_break : (ports : Ports) (line : List ℕ) (a b : StimCode) → IsBroken ports line a → IsBroken ports line b → a ≡ b
one_break ports line S01 S01 f g = refl
one_break ports line S01 S02 f g = absurd (f g.0)
one_break ports line S01 S03 f g = absurd (f g.0)
one_break ports line S01 S05 f g = absurd g
one_break ports line S02 S01 f g = absurd (g f.0)
one_break ports line S02 S02 f g = refl
one_break ports line S02 S03 f g = absurd (f.1 g.1)
one_break ports line S02 S05 f g = absurd g
one_break ports line S03 S01 f g = absurd (g f.0)
one_break ports line S03 S02 f g = absurd (g.1 f.1)
one_break ports line S03 S03 f g = refl
one_break ports line S03 S05 f g = absurd g
one_break ports line S05 b f g = absurd f

one_code : (ports : Ports) (n : ℕ) (line : List ℕ) (a b : StimCode) → IsFaultOf ports n line a → IsFaultOf ports n line b → a ≡ b
one_code ports n line a b (inl f) (inl g) = one_break ports line a b f g
one_code ports n line a b (inl f) (inr g) = absurd (right_line ports line a g.right f)
one_code ports n line a b (inr f) (inl g) = absurd (right_line ports line b f.right g)
one_code ports n line a b (inr f) (inr g) = f.code_is ∙ sym g.code_is

length-line : (ports : Ports) (line : List ℕ) → length (line_events ports line) ≡ count_of line
length-line ports line = length-replicate (count_of line) (event_of ports line)

-- a line that is taken has no fault
taken_line : (ports : Ports) (n : ℕ) (line : List ℕ) (code : StimCode) → IsRight ports line → n + count_of line ≤ EVENTS → IsFaultOf ports n line code → ⊥
taken_line ports n line code right few (inl f) = right_line ports line code right f
taken_line ports n line code right few (inr f) = let many = f.many in omega arith

length-events : (ports : Ports) (line : List ℕ) (lines : List (List ℕ)) → length (events_of ports (line ∷ lines)) ≡ count_of line + length (events_of ports lines)
length-events ports line lines = length-append (line_events ports line) (events_of ports lines) ∙ ap (λ n. n + length (events_of ports lines)) (length-line ports line)

-- the first line with a fault stands behind as many lines, and breaks the same
first_fault : (ports : Ports) (n : ℕ) (ls : List (List ℕ)) (s : List ℕ) (os : List (List ℕ)) (a : StimCode) (ms : List (List ℕ)) (t : List ℕ) (ps : List (List ℕ)) (b : StimCode)
    → ls ++ s ∷ os ≡ ms ++ t ∷ ps → AllByRecursion (IsRight ports) ls → AllByRecursion (IsRight ports) ms
    → n + length (events_of ports ls) ≤ EVENTS → n + length (events_of ports ms) ≤ EVENTS
    → IsFaultOf ports (n + length (events_of ports ls)) s a → IsFaultOf ports (n + length (events_of ports ms)) t b → (length ls ≡ length ms) × (a ≡ b)
first_fault ports n [] s os a [] t ps b same right others few less f g =
    let head : s ≡ t = cc in
    let none : n + 0 ≡ n = omega arith in
    (refl, one_code ports (n + 0) t a b (subst (λ (l : List ℕ). IsFaultOf ports (n + 0) l a) head f) g)
first_fault ports n [] s os a (m ∷ ms) t ps b same right others few less f g =
    let head : s ≡ m = cc in
    let zero_more : n + 0 + count_of m ≤ EVENTS = omega (arith, length-events ports m ms) in
    absurd (taken_line ports (n + 0) m a others.0 zero_more (subst (λ (l : List ℕ). IsFaultOf ports (n + 0) l a) head f))
first_fault ports n (l ∷ ls) s os a [] t ps b same right others few less f g =
    let head : t ≡ l = cc in
    let zero_more : n + 0 + count_of l ≤ EVENTS = omega (arith, length-events ports l ls) in
    absurd (taken_line ports (n + 0) l b right.0 zero_more (subst (λ (x : List ℕ). IsFaultOf ports (n + 0) x b) head g))
first_fault ports n (l ∷ ls) s os a (m ∷ ms) t ps b same right others few less f g =
    let head : m ≡ l = cc in
    let tail : ls ++ s ∷ os ≡ ms ++ t ∷ ps = cc in
    let next = n + count_of l in
    let one : n + length (events_of ports (l ∷ ls)) ≡ next + length (events_of ports ls) = omega (arith, length-events ports l ls) in
    let counts : count_of m ≡ count_of l = ap count_of head in
    let other : n + length (events_of ports (m ∷ ms)) ≡ next + length (events_of ports ms) = omega (arith, length-events ports m ms) in
    let rest : (length ls ≡ length ms) × (a ≡ b) =
    first_fault ports next ls s os a ms t ps b tail right.1 others.1 (omega arith) (omega arith) (subst (λ (k : ℕ). IsFaultOf ports k s a) one f) (subst (λ (k : ℕ). IsFaultOf ports k t b) other g) in
    (ap suc rest.0, rest.1)

same_fault : (a b : StimFault) → a.line ≡ b.line → a.code ≡ b.code → a ≡ b
same_fault a b line code = λ i. record { code = code i; line = line i }

from_none : (ports : Ports) (ls : List (List ℕ)) (line : List ℕ) (code : StimCode) → IsFaultOf ports (length (events_of ports ls)) line code
    → IsFaultOf ports (0 + length (events_of ports ls)) line code
from_none ports ls line code f = subst (λ (k : ℕ). IsFaultOf ports k line code) (sym (zero-add (length (events_of ports ls)))) f

pub one_fault : (text : List ℕ) (ports : Ports) (a b : StimFault) → IsStimFault text ports a → IsStimFault text ports b → a ≡ b
one_fault text ports a b (inl f) (inl g) = same_fault a b (f.line ∙ sym g.line) (f.code ∙ sym g.code)
one_fault text ports a b (inl f) (inr g) = let short = g.short in let long = f.long in absurd (omega arith)
one_fault text ports a b (inr f) (inl g) = let short = f.short in let long = g.long in absurd (omega arith)
one_fault text ports a b (inr f) (inr g) =
    let same = first_fault ports 0 f.taken f.line f.others a.code g.taken g.line g.others b.code (sym f.lines ∙ g.lines) f.right g.right (omega (arith, f.few)) (omega (arith, g.few))
    (from_none ports f.taken f.line a.code f.cause) (from_none ports g.taken g.line b.code g.cause) in
    same_fault a b (f.number ∙ ap (λ k. k + 1) same.0 ∙ sym g.number) same.1

pub one_stimulus : (text : List ℕ) (ports : Ports) (a b : List Event) → Stim text ports a → Stim text ports b → a ≡ b
one_stimulus text ports a b f g = f.events_are ∙ sym g.events_are

-- of lines that are all taken none has a fault
none_at : (ports : Ports) (n : ℕ) (ls : List (List ℕ)) (line : List ℕ) (others : List (List ℕ)) (code : StimCode) → AllByRecursion (IsRight ports) (ls ++ line ∷ others)
    → n + length (events_of ports (ls ++ line ∷ others)) ≤ EVENTS → IsFaultOf ports (n + length (events_of ports ls)) line code → ⊥
none_at ports n [] line others code right few f = taken_line ports (n + 0) line code right.0 (omega (arith, length-events ports line others)) f
none_at ports n (l ∷ ls) line others code right few f =
    let next : n + length (events_of ports (l ∷ ls)) ≡ n + count_of l + length (events_of ports ls) = omega (arith, length-events ports l ls) in
    none_at ports (n + count_of l) ls line others code right.1 (omega (arith, length-events ports l (ls ++ line ∷ others))) (subst (λ (k : ℕ). IsFaultOf ports k line code) next f)

pub no_fault : (text : List ℕ) (ports : Ports) (events : List Event) (fault : StimFault) → Stim text ports events → IsStimFault text ports fault → ⊥
no_fault text ports events fault stim (inl f) = let short = stim.short in let long = f.long in omega arith
no_fault text ports events fault stim (inr f) =
    let few : length (events_of ports (f.taken ++ f.line ∷ f.others)) ≤ EVENTS = subst (λ (es : List Event). length es ≤ EVENTS) (stim.events_are ∙ ap (events_of ports) f.lines) stim.few in
    none_at ports 0 f.taken f.line f.others fault.code (subst (AllByRecursion (IsRight ports)) f.lines stim.right) (omega (arith, few)) (from_none ports f.taken f.line fault.code f.cause)
