-- The parts of a term by number, in the order of their paths, and which of them are places.
use Rattle.std.specs.Prelude.{◌≡◌, ◌⊎◌, ◌<◌, ℕ, zero, suc, Bool, true, false}
use Rattle.std.specs.Prelude.{List, [], ◌∷◌, ◌++◌, length, drop, replicate, reverse}
use Rattle.std.specs.Prelude.{Option, MatchOption}
use Rattle.chw_types.specs.TypeTree.{TypeTree}
use Rattle.chw_terms.specs.declared.scene.Mode.{Mode}
use Rattle.chw_terms.specs.declared.scene.Mode.TheVariants.{K}
use Rattle.chw_terms.specs.declared.scene.Place.{Place}
use Rattle.chw_terms.specs.TermTree.{TermTree, app, ty_app, letrec}
use Rattle.chw_typing.specs.Scopes.{with_more, declared}
use Rattle.chw_typing.specs.Paths.{argument_path}
use Rattle.rewriting.specs.Origins.{Origins}
use Rattle.rewriting.specs.Active.{Below}
use Rattle.rewriting.specs.Spots.{Spot, spot, HasLets}
use Rattle.active_parts.specs.declared.parts.Part.{Part}
use Rattle.active_parts.specs.declared.paths.PartPath.{PartPath}

-- to how many types and terms a term is applied
abbrev pub arguments_of : TermTree → ℕ
arguments_of (app f a) = suc (arguments_of f)
arguments_of (ty_app f t) = suc (arguments_of f)
arguments_of _ = 0

-- from a term with n arguments to its part of this number: to an argument, or to a child where
-- there are none
abbrev pub part_path : ℕ → ℕ → List ℕ
part_path zero i = i ∷ []
part_path (suc n) i = argument_path i (suc n)

abbrev pub path_to : TermTree → ℕ → List ℕ
path_to e i = part_path (arguments_of e) i

abbrev pub numbers_of : PartPath → List ℕ
numbers_of p = replicate p.zeros 0 ++ p.last ∷ []

-- among n arguments, if there are any
abbrev pub IsAmong : ℕ → ℕ → Type 0
IsAmong n i = (n ≡ 0) ⊎ (i < n)

-- the variables that come into scope for all parts of a term
abbrev pub declares : TermTree → List TypeTree
declares (letrec g e) = declared g
declares _ = []

-- the spot of a term, by the place in which those variables are in scope
abbrev pub around : Place → TermTree → Spot
around at e = spot at.mode at.result (drop (length (declares e)) (reverse at.vars))

-- they are in scope
abbrev pub IsInside : Place → TermTree → Type 0
IsInside at e = reverse at.vars ≡ with_more (declares e) (around at e).vars

-- a letrec has places below it, but in heads
abbrev pub HasParts : Mode → Type 0
HasParts m = HasLets m ⊎ (m ≡ K)

-- the body of a letrec gives what the letrec gives, but for constants
abbrev pub gives_result : Mode → Bool
gives_result K = false
gives_result _ = true

-- nothing is a place at this path below the spot of a term
abbrev pub HasNoPart : Origins → Spot → TermTree → List ℕ → Type 0
HasNoPart o at e path = (at' : Spot) (x : TermTree) → Below o at e path at' x → ⊥

-- the spot of a part, where these variables are in scope for all parts
abbrev pub spot_in : List TypeTree → Part → Spot
spot_in vars p = spot p.mode p.gives (with_more p.more.items vars)

-- the answer is the place at this path, or nothing where there is none
abbrev pub FindsPart
    : Origins → Spot → TermTree → List ℕ → List TypeTree → Option Part → Type 0
FindsPart o at e path vars answer =
    MatchOption answer (HasNoPart o at e path)
    (λ p. Below o at e path (spot_in vars p) p.term.now)

-- each place below a term at a spot of this mode is among the first n parts
abbrev pub AreAmongFirst : Mode → TermTree → ℕ → Type 0
AreAmongFirst mode e n =
    (o : Origins) (at at' : Spot) (path : List ℕ) (x : TermTree)
    → at.mode ≡ mode → Below o at e path at' x → (i : ℕ) × (i < n) × (path ≡ path_to e i)

-- that many parts are counted only where there are arguments for them, if there are any
abbrev pub AreAmongArguments : TermTree → ℕ → Type 0
AreAmongArguments e n = (i : ℕ) → i < n → IsAmong (arguments_of e) i
