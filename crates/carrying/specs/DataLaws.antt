-- What bits data carry, their fields, and a case on them.
use Rattle.std.specs.Prelude.{◌≡◌, ℕ, suc, zero, ◌+◌, Bool, true, false, List, [], ◌∷◌, ◌++◌}
use Rattle.std.specs.Prelude.{length, take, drop, Option, Some, None, if◌then◌else◌, slice_get}
use Rattle.chw_types.specs.declared.declarations.Data.{Data}
use Rattle.chw_types.specs.TypeTree.{TypeTree, data_of, TypeTrees}
use Rattle.chw_terms.specs.Constructors.{Constructor, con_at}
use Rattle.chw_terms.specs.declared.program.Program.{Program}
use Rattle.chw_terms.specs.declared.term.Pattern.{Pattern}
use Rattle.chw_terms.specs.declared.term.Pattern.TheVariants.{OfCon, OfLit, Default}
use Rattle.chw_terms.specs.TermTree.{TermTree, con, case_of, Alts, no_alts, alt}
use Rattle.chw_terms.specs.TermView.{applied}
use Rattle.chw_typing.specs.HeadTypes.{fields_at, PatternOf}
use Rattle.chw_typing.specs.Given.{types_then}
use Rattle.chw_layout.specs.Encodes.{filled}
use Rattle.chw_layout.specs.Measured.{tag_width, HasWidth}
use Rattle.chw_meaning.specs.Zeros.{IsWide}
use Rattle.chw_meaning.specs.Values.{History, Thunk, closed, field, Thunks, none, thunk_at}
use Rattle.chw_meaning.specs.Values.{count_of, joined, fields_from}
use Rattle.chw_meaning.specs.Eval.{goes_on, takes, looks, choice, same_bits}
use Rattle.carrying.specs.Carrying.{tag_of, Shows, Carries}
use Rattle.carrying.specs.TermLaws.{each_closed}

-- as many thunks as types, and each thunk carries bits at its type; these are the bits of all, one
-- after the other
pub data CarryAll (p : Program) : List TypeTree → List Thunk → List Bool → Type 0 where
  carry_nothing : CarryAll p [] [] []
  carry_next : {t : TypeTree} {ts : List TypeTree} {th : Thunk} {ths : List Thunk}
      {b more : List Bool}
      → Carries p t th b
      → CarryAll p ts ths more
      → CarryAll p (t ∷ ts) (th ∷ ths) (b ++ more)

-- the first of these bits, in parts as wide as these types; further ones may follow
pub data Parts (datas : List Data) : List TypeTree → List Bool → List (List Bool) → Type 0 where
  no_parts : {b : List Bool} → Parts datas [] b []
  part_and : {w : ℕ} {t : TypeTree} {ts : List TypeTree} {b : List Bool}
      {parts : List (List Bool)}
      → HasWidth datas t w
      → Parts datas ts (drop w b) parts
      → Parts datas (t ∷ ts) b (take w b ∷ parts)

-- the last ones of the thunks, as many as these types, carry these parts; the last one stands first
pub data CarryParts (p : Program) : List TypeTree → Thunks → List (List Bool) → Type 0 where
  carry_no_part : {ths : Thunks} → CarryParts p [] ths []
  carry_part : {t : TypeTree} {ts : List TypeTree} {th : Thunk} {ths : Thunks} {b : List Bool}
      {parts : List (List Bool)}
      → thunk_at ths (length ts) ≡ Some th
      → Carries p t th b
      → CarryParts p ts ths parts
      → CarryParts p (t ∷ ts) ths (b ∷ parts)

-- the tag with which bits of this constructor's data type begin, and what lies behind it
abbrev pub tag_in : Constructor → List Bool → List Bool
tag_in it b = take (tag_width (length it.it.cons)) b

abbrev pub behind_tag : Constructor → List Bool → List Bool
behind_tag it b = drop (tag_width (length it.it.cons)) b

-- whether a pattern is for the value with these bits
abbrev pub has_tag : List Data → ℕ → Option Constructor → List Bool → Bool
has_tag datas c None b = false
has_tag datas c (Some it) b = same_bits (tag_in it b) (tag_of datas c it)

abbrev pub is_for : List Data → List Bool → Pattern → Bool
is_for datas b Default = true
is_for datas b (OfLit s a) = same_bits b a
is_for datas b (OfCon c n) = has_tag datas c.number (con_at datas c.number) b

-- what lies behind the tag where the pattern is a constructor's
abbrev pub behind_con : Option Constructor → List Bool → List Bool
behind_con None b = b
behind_con (Some it) b = behind_tag it b

abbrev pub behind : List Data → Pattern → List Bool → List Bool
behind datas (OfCon c n) b = behind_con (con_at datas c.number) b
behind datas _ b = b

-- an alternative: its pattern and its body
pub record Taken : Type 0 where
  pub pattern : Pattern
  pub body : TermTree

-- the first alternative for the value with these bits
abbrev pub taken : List Data → List Bool → Alts → Option Taken
taken datas b no_alts = None
taken datas b (alt q e more) =
    if is_for datas b q then Some (record { pattern = q; body = e }) else taken datas b more

-- each pattern is one for values of the type
abbrev pub AreFor : List Data → TypeTree → Alts → Type 0
AreFor datas u no_alts = Unit {0}
AreFor datas u (alt q e more) =
    ((fields : List TypeTree) × PatternOf datas u q fields) × AreFor datas u more

-- a constructor of the data type with whose tag the bits begin
pub record BeginsWith (datas : List Data) (d : ℕ) (b : List Bool) : Type 0 where
  pub number : ℕ
  pub it : Constructor
  pub held : con_at datas number ≡ Some it
  pub of_type : it.of ≡ d
  pub begins : tag_in it b ≡ tag_of datas number it

-- bits of data that are shown begin with a constructor's tag
abbrev pub ShownHasTag : Type 0
ShownHasTag =
    (p : Program) (d : ℕ) (ts : TypeTrees) (th : Thunk) (h : History) (b : List Bool)
    → IsWide p.datas (data_of d ts) → Shows p (data_of d ts) th h b → BeginsWith p.datas d b

-- and a tag tells the constructor
abbrev pub TagTells : Type 0
TagTells =
    (datas : List Data) (c d : ℕ) (it other : Constructor)
    → con_at datas c ≡ Some it → con_at datas d ≡ Some other → it.of ≡ other.of
    → tag_of datas c it ≡ tag_of datas d other → c ≡ d

-- a constructor on its types and operands carries its tag, the bits of the operands, and zeros up
-- to the width of the type. Which types it is given doesn't matter.
abbrev pub ConstructorCarries : Type 0
ConstructorCarries =
    (p : Program) (c : ℕ) (it : Constructor) (ts : TypeTrees) (w : ℕ) (types : List TypeTree)
    (es : List TermTree) (γ : Thunks) (δ : TypeTrees) (b : List Bool)
    → con_at p.datas c ≡ Some it → HasWidth p.datas (data_of it.of ts) w
    → length types ≡ length it.it.params
    → CarryAll p (fields_at it ts) (each_closed es γ δ) b
    → Carries p (data_of it.of ts) (closed (applied (con c) (types_then types es)) γ δ)
    (filled w (tag_of p.datas c it ++ b))

-- where a thunk shows the bits of data that begin with a constructor's tag, a field of it shows the
-- bits at its place; the last field is 0
abbrev pub FieldShows : Type 0
FieldShows =
    (p : Program) (c : ℕ) (it : Constructor) (ts : TypeTrees) (th : Thunk) (h : History)
    (b : List Bool) (parts : List (List Bool)) (i j : ℕ) (t : TypeTree) (part : List Bool)
    → con_at p.datas c ≡ Some it → Shows p (data_of it.of ts) th h b
    → tag_in it b ≡ tag_of p.datas c it
    → Parts p.datas (fields_at it ts) (behind_tag it b) parts
    → slice_get (fields_at it ts) j ≡ Some t → slice_get parts j ≡ Some part
    → i + suc j ≡ length (fields_at it ts)
    → Shows p t (field i th) h part

-- so where it carries them, all its fields carry theirs
abbrev pub FieldsCarry : Type 0
FieldsCarry =
    (p : Program) (c : ℕ) (it : Constructor) (ts : TypeTrees) (th : Thunk) (b : List Bool)
    (parts : List (List Bool))
    → con_at p.datas c ≡ Some it → Carries p (data_of it.of ts) th b
    → tag_in it b ≡ tag_of p.datas c it
    → Parts p.datas (fields_at it ts) (behind_tag it b) parts
    → CarryParts p (fields_at it ts) (fields_from zero (length (fields_at it ts)) th none) parts

-- a case that doesn't look shows what its alternative shows: a default's or an empty literal's
abbrev pub GoesOnShows : Type 0
GoesOnShows =
    (p : Program) (t : TypeTree) (s e : TermTree) (alts : Alts) (γ : Thunks) (δ : TypeTrees)
    (h : History) (b : List Bool)
    → choice p.datas alts ≡ goes_on e → Shows p t (closed e γ δ) h b
    → Shows p t (closed (case_of s alts) γ δ) h b

-- or that of the only constructor, with the fields of the scrutinee
abbrev pub TakesShows : Type 0
TakesShows =
    (p : Program) (t : TypeTree) (s e : TermTree) (n : ℕ) (alts : Alts) (γ : Thunks)
    (δ : TypeTrees) (h : History) (b : List Bool)
    → choice p.datas alts ≡ takes n e
    → Shows p t (closed e (fields_from zero n (closed s γ δ) γ) δ) h b
    → Shows p t (closed (case_of s alts) γ δ) h b

-- a case that looks at bits shows what the first alternative for them shows, with any thunks as its
-- pattern's variables that carry the bits of the fields. Nothing is asked of the others. The
-- scrutinee's type isn't of width 0: behind a default there may be further alternatives, and then
-- even a scrutinee of width 0 is looked at.
abbrev pub LooksShows : Type 0
LooksShows =
    (p : Program) (u t : TypeTree) (s : TermTree) (alts : Alts) (a : Taken)
    (fields : List TypeTree) (γ : Thunks) (δ : TypeTrees) (h : History) (x b : List Bool)
    (parts : List (List Bool))
    → choice p.datas alts ≡ looks → IsWide p.datas u → AreFor p.datas u alts
    → Shows p u (closed s γ δ) h x → taken p.datas x alts ≡ Some a
    → PatternOf p.datas u a.pattern fields → Parts p.datas fields (behind p.datas a.pattern x) parts
    → ((ths : Thunks) → count_of ths ≡ length fields → CarryParts p fields ths parts
    → Shows p t (closed a.body (joined ths γ) δ) h b)
    → Shows p t (closed (case_of s alts) γ δ) h b

-- so whichever way a case goes, where its scrutinee carries bits: it carries what the first
-- alternative for them carries
abbrev pub CaseCarries : Type 0
CaseCarries =
    (p : Program) (u t : TypeTree) (s : TermTree) (alts : Alts) (a : Taken)
    (fields : List TypeTree) (γ : Thunks) (δ : TypeTrees) (x b : List Bool)
    (parts : List (List Bool))
    → (choice p.datas alts ≡ looks → IsWide p.datas u) → AreFor p.datas u alts
    → Carries p u (closed s γ δ) x → taken p.datas x alts ≡ Some a
    → PatternOf p.datas u a.pattern fields → Parts p.datas fields (behind p.datas a.pattern x) parts
    → ((ths : Thunks) → count_of ths ≡ length fields → CarryParts p fields ths parts
    → Carries p t (closed a.body (joined ths γ) δ) b)
    → Carries p t (closed (case_of s alts) γ δ) b
