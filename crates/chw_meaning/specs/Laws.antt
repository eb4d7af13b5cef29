-- What is promised of the meaning.
use Rattle.std.specs.Prelude.{◌≡◌, ℕ, zero, ◌≤◌, List, Some, replicate, false}
use Rattle.chw_clock.specs.declared.event.Ports.{Ports}
use Rattle.chw_types.specs.declared.declarations.Data.{Data}
use Rattle.chw_types.specs.TypeTree.{TypeTree, TypeTrees}
use Rattle.chw_terms.specs.declared.program.Program.{Program}
use Rattle.chw_terms.specs.TermTree.{TermTree}
use Rattle.chw_layout.specs.Datum.{Datum}
use Rattle.chw_layout.specs.Measured.{HasWidth}
use Rattle.chw_layout.specs.Encodes.{Encodes, IsValueOf}
use Rattle.chw_meaning.specs.Zeros.{IsZero}
use Rattle.chw_meaning.specs.Values.{History, Value, Thunk, sample, known, Thunks}
use Rattle.chw_meaning.specs.Eval.{Evals, Forces}
use Rattle.chw_meaning.specs.Gives.{Input, Gives, Better}
use Rattle.chw_meaning.specs.Means.{HasPorts, Fit, Means}
use Rattle.chw_meaning.specs.Run.{Found, eval, force}
use Rattle.chw_meaning.specs.Meant.{gives_by, ports_by, fits_by, means_by}
use Rattle.chw_meaning.specs.Writing.{shown}

-- the term has the value within so many turns
abbrev pub HasValue : ℕ → Program → TermTree → Thunks → TypeTrees → History → Value → Type 0
HasValue n p e γ δ h v = (m : ℕ) × (m ≤ n) × Evals p m e γ δ h v

abbrev pub MoreTurnsKeep : Type 0
MoreTurnsKeep =
    (p : Program) (e : TermTree) (γ : Thunks) (δ : TypeTrees) (h : History) (v : Value) (m n : ℕ) → m ≤ n → HasValue m p e γ δ h v → HasValue n p e γ δ h v

-- a term in one environment at one history has at most one value, and has it in one number of turns
abbrev pub OneValue : Type 0
OneValue =
    (p : Program) (e : TermTree) (γ : Thunks) (δ : TypeTrees) (h : History) (m n : ℕ) (v w : Value) → Evals p m e γ δ h v → Evals p n e γ δ h w → (m ≡ n) × (v ≡ w)

-- the same of a thunk
abbrev pub OneForced : Type 0
OneForced =
    (p : Program) (th : Thunk) (h : History) (m n : ℕ) (v w : Value) → Forces p m th h v → Forces p n th h w → (m ≡ n) × (v ≡ w)

-- a term gives at most one data value, on the same inputs, at one leaf, at one history
abbrev pub OneGiven : Type 0
OneGiven =
    (p : Program) (e : TermTree) (t : TypeTree) (ins : List Input) (h : History) (k : ℕ) (a b : Datum) → Gives p e t ins h k a → Gives p e t ins h k b → a ≡ b

-- a program has one list of ports
abbrev pub OnePorts : Type 0
OnePorts = (p : Program) (a b : Ports) → HasPorts p a → HasPorts p b → a ≡ b

-- an output has at most one meaning at a history
abbrev pub OneMeaning : Type 0
OneMeaning =
    (p : Program) (h : History) (k : ℕ) (a b : Datum) → Means p h k a → Means p h k b → a ≡ b

-- a sample and a data value have the same value at every history
abbrev pub SamplesStay : Type 0
SamplesStay =
    (p : Program) (n : ℕ) (th : Thunk) (at h g : History) (v : Value) → Forces p n (sample th at) h v → Forces p n (sample th at) g v

abbrev pub DataStay : Type 0
DataStay =
    (p : Program) (n : ℕ) (d : Datum) (h g : History) (v : Value) → Forces p n (known d) h v → Forces p n (known d) g v

-- what the function computes, the relation has
abbrev pub ComputedIsSo : Type 0
ComputedIsSo =
    (d : ℕ) (p : Program) (e : TermTree) (γ : Thunks) (δ : TypeTrees) (h : History) (r : Found Value) → eval d p e γ δ h ≡ Some r → Evals p r.turns e γ δ h r.value

abbrev pub ForcedIsSo : Type 0
ForcedIsSo =
    (d : ℕ) (p : Program) (th : Thunk) (h : History) (r : Found Value) → force d p th h ≡ Some r → Forces p r.turns th h r.value

-- what examples show, the relation has
abbrev pub ShownIsSo : Type 0
ShownIsSo = (p : Program) (th : Thunk) (h : History) (v : Value) → shown p th h ≡ Some v → (n : ℕ) × Forces p n th h v

-- what the functions compute of a term on inputs, and of a program, the relations have
abbrev pub GivenIsSo : Type 0
GivenIsSo =
    (d : ℕ) (p : Program) (e : TermTree) (t : TypeTree) (ins : List Input) (h : History) (k : ℕ)
    (v : Datum) → gives_by d p e t ins h k ≡ Some v → Gives p e t ins h k v

abbrev pub PortsAreSo : Type 0
PortsAreSo = (d : ℕ) (p : Program) (ports : Ports) → ports_by d p ≡ Some ports → HasPorts p ports

abbrev pub FitIsSo : Type 0
FitIsSo =
    (d : ℕ) (p : Program) (h : History) (ins : List Input) → fits_by d p h ≡ Some ins → Fit p h

abbrev pub MeantIsSo : Type 0
MeantIsSo =
    (d : ℕ) (p : Program) (h : History) (k : ℕ) (v : Datum)
    → means_by d p h k ≡ Some v → Means p h k v

abbrev pub BetterReflexive : Type 0
BetterReflexive = (p : Program) (t : TypeTree) (e : TermTree) → Better p t e e

abbrev pub BetterTransitive : Type 0
BetterTransitive = (p : Program) (t : TypeTree) (a b c : TermTree) → Better p t a b → Better p t b c → Better p t a c

-- a closed type has at most one width, and at most one data value whose bits are all zero
abbrev pub OneWidth : Type 0
OneWidth = (datas : List Data) (t : TypeTree) (v w : ℕ) → HasWidth datas t v → HasWidth datas t w → v ≡ w

abbrev pub OneZero : Type 0
OneZero = (datas : List Data) (t : TypeTree) (a b : Datum) → IsZero datas t a → IsZero datas t b → a ≡ b

-- the bits of that data value are all zero
abbrev pub ZeroBits : Type 0
ZeroBits = (datas : List Data) (t : TypeTree) (w : ℕ) (z : Datum) → HasWidth datas t w → IsZero datas t z → Encodes datas t z (replicate w false)

-- a type of width 0 has one value
abbrev pub OneValueAtWidthZero : Type 0
OneValueAtWidthZero =
    (datas : List Data) (t : TypeTree) (d z : Datum) → HasWidth datas t zero → IsValueOf datas t d → IsZero datas t z → d ≡ z
