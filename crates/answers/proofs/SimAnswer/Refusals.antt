-- A stimulus of values isn't refused, and a text has one fault.
use Rattle.std.proofs.Common.{◌≡◌, ℕ, List, [], ◌∷◌, ◌++◌, length, refl, sym, ap, ◌∙◌, subst, arith}
use Rattle.std.specs.List.{AllByRecursion}
use Rattle.chw_clock.specs.declared.event.Event.{Event}
use Rattle.chw_clock.specs.declared.event.Ports.{Ports}
use Rattle.chw_types.specs.TypeTree.{TypeTree}
use Rattle.chw_terms.specs.declared.program.Program.{Program}
use Rattle.chw_meaning.specs.Laws.{OnePorts}
use Rattle.chw_meaning.specs.Means.{HasPorts}
use Rattle.stimulus.specs.Stimulus.{IsStimFault, Stim, event_of}
use Rattle.stimulus.specs.Texts.{lines_of}
use Rattle.stimulus.specs.declared.fault.StimFault.{StimFault}
use Rattle.answers.specs.SimAnswer.Laws.{NothingRefusesAStimulus, OneFault}
use Rattle.answers.specs.SimAnswer.Simulation.{HasInputs, HasValues, IsFirstWithoutValues, not_stimulus, not_values}
use Rattle.answers.specs.declared.sim_answer.fault.SimFault.TheVariants.{Stimulus, Value}
use Rattle.answers.proofs.SimAnswer.Lines.{all_middle}
use Rattle.answers.proofs.SimAnswer.Strangers.{of_events}
use Rattle.answers.proofs.SimAnswer.Tops.{inputs_once}

abbrev pub NoStimFault : Type 0
NoStimFault = (text : List ℕ) (ports : Ports) (events : List Event) (fault : StimFault) → Stim text ports events → IsStimFault text ports fault → ⊥

abbrev pub OneStimFault : Type 0
OneStimFault = (text : List ℕ) (ports : Ports) (a b : StimFault) → IsStimFault text ports a → IsStimFault text ports b → a ≡ b

-- a stimulus has no fault, by whichever ports of the program
no_fault_either : OnePorts → NoStimFault → (p : Program) (text : List ℕ) (ports others : Ports) (events : List Event) (fault : StimFault) → HasPorts p ports → HasPorts p others
    → Stim text ports events → IsStimFault text others fault → ⊥
no_fault_either once never p text ports others events fault are were read f =
    never text ports events fault read (subst (λ ps. IsStimFault text ps fault) (once p others ports were are) f)

-- values of one list of types and of the other
values_either : OnePorts → (p : Program) (line : List ℕ) (ports others : Ports) (types more : List TypeTree) → HasInputs p ports types → HasInputs p others more
    → HasValues p.datas types (event_of ports line) → HasValues p.datas more (event_of others line)
values_either once p line ports others types more has had v =
    subst (λ ps. HasValues p.datas more (event_of ps line)) (once p ports others has.are_ports had.are_ports)
    (subst (λ ts. HasValues p.datas ts (event_of ports line)) (inputs_once has had) v)

pub nothing_refuses : OnePorts → NoStimFault → NothingRefusesAStimulus
nothing_refuses once never p text ports events _ s (not_stimulus others fault are f) =
    no_fault_either once never p text ports others events fault s.has.are_ports are s.read f
nothing_refuses once never p text ports events _ s (not_values number f) =
    let all = of_events (HasValues p.datas s.types) ports (lines_of text) s.read.right (subst (AllByRecursion (HasValues p.datas s.types)) s.read.events_are s.values) in
    let here = all_middle (λ (l : List ℕ). HasValues p.datas s.types (event_of ports l)) f.earlier f.line f.later
    (subst (AllByRecursion (λ (l : List ℕ). HasValues p.datas s.types (event_of ports l))) f.lines all) in
    f.cause (values_either once p f.line ports f.ports s.types f.types s.has f.has here)

-- ---- one fault

-- the first item without it
first_once : {A : Type 0} (Q : A → Type 0) (xs ys : List A) (x y : A) (later others : List A) → xs ++ x ∷ later ≡ ys ++ y ∷ others → AllByRecursion Q xs → (Q x → ⊥) → AllByRecursion Q ys → (Q y → ⊥)
    → length xs ≡ length ys
first_once Q [] [] x y later others same all wrong more never = refl
first_once Q [] (w ∷ ys) x y later others same all wrong more never = let head : w ≡ x = cc in absurd (wrong (subst Q head more.0))
first_once Q (z ∷ xs) [] x y later others same all wrong more never = let head : z ≡ y = cc in absurd (never (subst Q head all.0))
first_once Q (z ∷ xs) (w ∷ ys) x y later others same all wrong more never =
    let tail : xs ++ x ∷ later ≡ ys ++ y ∷ others = cc in
    let n = first_once Q xs ys x y later others tail all.1 wrong more.1 never in
    omega (arith, n)

all_either : {A : Type 0} (P Q : A → Type 0) (xs : List A) → ((x : A) → P x → Q x) → AllByRecursion P xs → AllByRecursion Q xs
all_either P Q [] by all = tt
all_either P Q (x ∷ xs) by all = (by x all.0, all_either P Q xs by all.1)

same_number : OnePorts → (p : Program) (text : List ℕ) (m n : ℕ) → IsFirstWithoutValues p text m → IsFirstWithoutValues p text n → m ≡ n
same_number once p text m n x y =
    let Q : List ℕ → Type 0 = λ l. HasValues p.datas x.types (event_of x.ports l) in
    let earlier = first_once Q x.earlier y.earlier x.line y.line x.later y.later (sym x.lines ∙ y.lines) x.values x.cause
    (all_either (λ l. HasValues p.datas y.types (event_of y.ports l)) Q y.earlier (λ l v. values_either once p l y.ports x.ports y.types x.types y.has x.has v) y.values)
    (λ v. y.cause (values_either once p y.line x.ports y.ports x.types y.types x.has y.has v)) in
    let a = x.number_is in
    let b = y.number_is in
    omega (arith, earlier, a, b)

pub one_fault : OnePorts → NoStimFault → OneStimFault → OneFault
one_fault once never faults p text _ _ (not_stimulus ports fault are f) (not_stimulus others more were g) =
    ap Stimulus (faults text ports fault more f (subst (λ ps. IsStimFault text ps more) (once p others ports were are) g))
one_fault once never faults p text _ _ (not_stimulus ports fault are f) (not_values n y) =
    absurd (no_fault_either once never p text y.ports ports y.events fault y.has.are_ports are y.read f)
one_fault once never faults p text _ _ (not_values m x) (not_stimulus others fault were g) =
    absurd (no_fault_either once never p text x.ports others x.events fault x.has.are_ports were x.read g)
one_fault once never faults p text _ _ (not_values m x) (not_values n y) = ap Value (same_number once p text m n x y)
