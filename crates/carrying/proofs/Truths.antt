-- Truth values hold their bit.
use Rattle.std.specs.Prelude.{codes}
use Rattle.std.proofs.Common.{◌≡◌, ℕ, Bool, true, false, List, [], ◌∷◌, ◌++◌, length, Some, refl, sym, ap, ◌∙◌, subst, arith}
use Rattle.chw_types.specs.declared.declarations.Data.{Data}
use Rattle.chw_types.specs.Arguments.{arguments}
use Rattle.chw_types.specs.BuiltIn.{built_in, constructor_of, data_type_of}
use Rattle.chw_types.specs.TypeTree.{TypeTree, no_types, TypeTrees}
use Rattle.chw_prims.specs.declared.prim.Primitive.{Primitive as Prim}
use Rattle.chw_prims.specs.declared.row.Row.{Row}
use Rattle.chw_prims.specs.declared.row.Row.TheVariants.{Compare, Reduce}
use Rattle.chw_prims.specs.Schemas.{row_of, bool}
use Rattle.prim_bits.specs.Values.{value_of as word_value}
use Rattle.prim_bits.specs.Widths.{result_width}
use Rattle.prim_bits.proofs.ResultWidths.{width_of_value}
use Rattle.chw_terms.specs.Constructors.{Constructor, con_at}
use Rattle.chw_terms.specs.declared.program.Program.{Program}
use Rattle.chw_terms.specs.TermTree.{TermTree, prim}
use Rattle.chw_terms.specs.TermView.{applied}
use Rattle.chw_typing.specs.Given.{types_then}
use Rattle.chw_layout.specs.Encodes.{filled}
use Rattle.chw_layout.specs.Measured.{HasWidth, measured_data, con_measured, no_cons_measured, no_fields_measured}
use Rattle.layout_laws.specs.SameLayout.{SameNumber}
use Rattle.chw_meaning.specs.Values.{History, con_of, Thunk, closed, Thunks, none}
use Rattle.chw_meaning.specs.Eval.{truth_of, result_by, Forces}
use Rattle.carrying.specs.Carrying.{tag_of, Holds, holds_built, Shows, CarryFields, carry_no_field}
use Rattle.carrying.specs.TermLaws.{each_closed}
use Rattle.carrying.specs.WordLaws.{numbers_of, ShowWords, is_test}
use Rattle.carrying.proofs.Widths.{held_shows}
use Rattle.carrying.proofs.Words.{primitive_has}

abbrev bool_data : Data
bool_data = data_type_of (codes "Bool") [] (constructor_of (codes "False") [] ∷ constructor_of (codes "True") [] ∷ [])

-- the constructor of this number is one of the truth values, without fields, and its tag is the bit
record TruthCon (datas : List Data) (c : ℕ) (b : Bool) : Type 0 where
  it : Constructor
  at : con_at datas c ≡ Some it
  of : it.of ≡ 0
  bare : it.decl.fields ≡ []
  tag : tag_of datas c it ≡ b ∷ []

falsity : (datas others : List Data) → datas ≡ built_in ++ others → TruthCon datas 0 false
falsity datas others e =
    subst (λ ds. TruthCon ds 0 false) (sym e)
    (record { it = record { of = 0; it = bool_data; decl = constructor_of (codes "False") [] }; at = refl; of = refl; bare = refl; tag = refl })

truth : (datas others : List Data) → datas ≡ built_in ++ others → TruthCon datas 1 true
truth datas others e =
    subst (λ ds. TruthCon ds 1 true) (sym e)
    (record { it = record { of = 0; it = bool_data; decl = constructor_of (codes "True") [] }; at = refl; of = refl; bare = refl; tag = refl })

pub bool_width : (datas others : List Data) → datas ≡ built_in ++ others → HasWidth datas bool 1
bool_width datas others e =
    subst (λ ds. HasWidth ds bool 1) (sym e)
    (measured_data {it = bool_data} refl refl (con_measured no_fields_measured (con_measured no_fields_measured no_cons_measured)))

truth_held : (p : Program) (c : ℕ) (b : Bool) → TruthCon p.datas c b → HasWidth p.datas bool 1 → Holds p bool (con_of c none) (b ∷ [])
truth_held p c b x has =
    let fields : CarryFields p x.it.decl.fields (arguments no_types) none [] = subst (λ fs. CarryFields p fs (arguments no_types) none []) (sym x.bare) carry_no_field in
    subst (λ tag. Holds p bool (con_of c none) (filled 1 (tag ++ []))) x.tag
    (holds_built x.at x.of (ap length (sym x.bare)) fields has)

pub truth_shows : {p : Program} {n : ℕ} {th : Thunk} {h : History} (b : List Bool) (others : List Data) → p.datas ≡ built_in ++ others → length b ≡ 1 → Forces p n th h (truth_of b) → Shows p bool th h b
truth_shows [] others e l f = absurd (omega (arith, l))
truth_shows {p} (true ∷ []) others e l f = let has = bool_width p.datas others e in held_shows 1 has f (truth_held p 1 true (truth p.datas others e) has)
truth_shows {p} (false ∷ []) others e l f = let has = bool_width p.datas others e in held_shows 1 has f (truth_held p 0 false (falsity p.datas others e) has)
truth_shows (x ∷ (y ∷ b)) others e l f = absurd (omega (arith, l))

test_result : (row : Row) (b : List Bool) → is_test row ≡ true → result_by row b ≡ truth_of b
test_result (Compare s) b e = refl
test_result Reduce b e = refl
test_result _ b e = absurd cc

test_width : (row : Row) (n m : ℕ) → is_test row ≡ true → result_width row n m ≡ 1
test_width (Compare s) n m e = refl
test_width Reduce n m e = refl
test_width _ n m e = absurd cc

pub test_shows : (p : Program) (q : Prim) (types : List TypeTree) (es : List TermTree) (γ : Thunks) (δ : TypeTrees) (h : History) (words : List (List Bool)) (b : List Bool) (others : List Data) → SameNumber → word_value q (numbers_of δ types) words ≡ Some b → ShowWords p h (each_closed es γ δ) words → is_test (row_of q) ≡ true → p.datas ≡ built_in ++ others → Shows p bool (closed (applied (prim q) (types_then types es)) γ δ) h b
test_shows p q types es γ δ h words b others same gives shown test begins =
    let f = primitive_has p q types es γ δ h words b same gives shown in
    truth_shows b others begins
    (width_of_value q (numbers_of δ types) words b gives ∙ test_width (row_of q) _ _ test)
    (subst (λ v. Forces p f.0 (closed (applied (prim q) (types_then types es)) γ δ) h v) (test_result (row_of q) b test) f.1)
