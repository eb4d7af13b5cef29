-- What blocks the places of a body, and what of it comes first.
use Rattle.std.specs.Prelude.{◌≡◌, ◌⊎◌, ℕ, ◌<◌, true, List, ◌++◌, length, replicate, reverse}
use Rattle.std.specs.Prelude.{Option, None, Some, MatchOption}
use Rattle.chw_types.specs.declared.declarations.Data.{Data}
use Rattle.chw_types.specs.TypeTree.{TypeTree}
use Rattle.chw_terms.specs.declared.scene.Mode.{Mode}
use Rattle.chw_terms.specs.TermTree.{TermTree, lam}
use Rattle.chw_typing.specs.Scopes.{Setting}
use Rattle.chw_layout.specs.declared.outcome.NoLayout.{NoLayout}
use Rattle.chw_typing.specs.Paths.{part_at, IsEarlier}
use Rattle.rewriting.specs.Named.{UnderLambdas}
use Rattle.rewriting.specs.Origins.{MadeOf, Origins}
use Rattle.rewriting.specs.Active.{Below, IsActive}
use Rattle.rewriting.specs.Spots.{Spot, spot}
use Rattle.normal_forms.specs.Blocked.{Block, limit, rank_of, Passes, BlocksAt, IsBlocked}
use Rattle.active_parts.specs.Grounds.{IsTypedAt}
use Rattle.blocked_places.specs.Answers.{HasDistinctBindings, block_of}
use Rattle.blocked_places.specs.declared.bodies.BlockedPart.{BlockedPart}
use Rattle.blocked_places.specs.declared.trail.Trail.{Trail}

-- what blocks at which paths
abbrev pub Blocking : Type 1
Blocking = List ℕ → Block → Type 0

-- by the path, then by what blocks
abbrev pub IsBeforeThere : List ℕ → Block → List ℕ → Block → Type 0
IsBeforeThere p b q c = IsEarlier p q ⊎ ((p ≡ q) × (rank_of b < rank_of c))

-- nothing blocks
abbrev pub NothingBlocks : Blocking → Type 0
NothingBlocks H = (path : List ℕ) (b : Block) → H path b → ⊥

-- this blocks there, and nothing that blocks comes before it; of a cycle no binding comes twice
pub record IsFirstAt (H : Blocking) (path : List ℕ) (b : Block) : Type 0 where
  pub it : H path b
  pub first : (q : List ℕ) (c : Block) → H q c → IsBeforeThere q c path b → ⊥
  pub distinct : HasDistinctBindings b

-- the answer is what comes first, or nothing where nothing blocks
abbrev pub FindsFirst : Blocking → Option Trail → Type 0
FindsFirst H answer =
    MatchOption answer (NothingBlocks H)
    (λ t. IsFirstAt H (reverse t.back.items) (block_of t.block))

-- the same of the body of a made definition
abbrev pub AnswersBody : Origins → MadeOf → TermTree → Option BlockedPart → Type 0
AnswersBody o it body answer =
    MatchOption answer (NothingBlocks (IsBlocked o it body))
    (λ p. IsFirstAt (IsBlocked o it body) p.path.items (block_of p.block))

-- the answer is another one, of which the path goes on from this one
abbrev pub GoesOn : List ℕ → Option Trail → Option Trail → Type 0
GoesOn path found answer =
    MatchOption found (answer ≡ None)
    (λ t. MatchOption answer ⊥
    (λ u. (reverse u.back.items ≡ path ++ reverse t.back.items) × (u.block ≡ t.block)))

-- the active places at or below a term
pub record IsActiveBlock (o : Origins) (at : Spot) (e : TermTree) (path : List ℕ) (b : Block)
    : Type 0
  where
    pub spot : Spot
    pub term : TermTree
    pub active : IsActive o at e path spot term
    pub blocks : BlocksAt o spot term b

-- those below it
pub record IsBlockBelow (o : Origins) (at : Spot) (e : TermTree) (path : List ℕ) (b : Block)
    : Type 0
  where
    pub part : List ℕ
    pub spot : Spot
    pub term : TermTree
    pub below : Below o at e part spot term
    pub rest : List ℕ
    pub is : path ≡ part ++ rest
    pub there : IsActiveBlock o spot term rest b

-- those at or below its part at a path
pub record IsBlockAtPart (o : Origins) (at : Spot) (e : TermTree) (part path : List ℕ) (b : Block)
    : Type 0
  where
    pub spot : Spot
    pub term : TermTree
    pub below : Below o at e part spot term
    pub rest : List ℕ
    pub is : path ≡ part ++ rest
    pub there : IsActiveBlock o spot term rest b

-- the leading lambdas of a term of this type whose parameters pass limits, with variables of these
-- types in scope
pub record IsLambdaBlock (datas : List Data) (vars : List TypeTree) (e : TermTree) (t : TypeTree)
    (path : List ℕ) (b : Block) : Type 0
  where
    pub root : List ℕ
    pub scope : List TypeTree
    pub inner : TermTree
    pub under : UnderLambdas vars e t root scope inner
    pub number : ℕ
    pub within : number < length root
    pub of : TypeTree
    pub body : TermTree
    pub there : part_at e (replicate number 0) ≡ Some (lam of body)
    pub what : NoLayout
    pub passes : Passes datas of what
    pub path_is : path ≡ replicate number 0
    pub block_is : b ≡ limit what

-- the active places below its leading lambdas
pub record IsBlockUnder (o : Origins) (mode : Mode) (vars : List TypeTree) (e : TermTree)
    (t : TypeTree) (path : List ℕ) (b : Block) : Type 0
  where
    pub root : List ℕ
    pub scope : List TypeTree
    pub inner : TermTree
    pub under : UnderLambdas vars e t root scope inner
    pub rest : List ℕ
    pub is : path ≡ root ++ rest
    pub there : IsActiveBlock o (spot mode true scope) inner rest b

-- both
abbrev pub InBody : Origins → Mode → List TypeTree → TermTree → TypeTree → Blocking
InBody o mode vars e t path b =
    IsLambdaBlock o.program.datas vars e t path b ⊎ IsBlockUnder o mode vars e t path b

-- below the leading lambdas there is a term, and it is typed
abbrev pub LeadsToTyped : Setting → Mode → List TypeTree → TermTree → TypeTree → Type 0
LeadsToTyped s mode vars e t =
    (path : List ℕ) × (vs : List TypeTree) × (body : TermTree)
    × UnderLambdas vars e t path vs body × IsTypedAt s (spot mode true vs) body

-- the answer is what was found, its path with the first number first
abbrev pub IsPartOf : Option Trail → Option BlockedPart → Type 0
IsPartOf found answer =
    MatchOption found (answer ≡ None)
    (λ t. MatchOption answer ⊥
    (λ p. (p.path.items ≡ reverse t.back.items) × (p.block ≡ t.block)))
