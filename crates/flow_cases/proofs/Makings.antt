-- What the rules on cases make, of terms that are the same.
use Rattle.std.proofs.Common.{◌≡◌, ◌∙◌, ◌==◌, ℕ, sym, ap, refl, subst, Bool, true, false, List, [], ◌∷◌, length, Some, slice_get}
use Rattle.chw_base.specs.declared.index.ConId.{ConId}
use Rattle.chw_types.specs.declared.declarations.Data.{Data}
use Rattle.chw_types.specs.declared.kind.Scalar.{Scalar}
use Rattle.type_ports.specs.Ports.{IsPort}
use Rattle.chw_types.specs.TypeTree.{TypeTree, data_of}
use Rattle.chw_types.specs.TypeView.{trees_of}
use Rattle.chw_terms.specs.Constructors.{Constructor, con_at}
use Rattle.chw_terms.specs.declared.rule.Rule.TheVariants.{CaseCon, CaseLet, CaseCase, Proj}
use Rattle.chw_terms.specs.declared.scene.Mode.TheVariants.{C}
use Rattle.chw_terms.specs.declared.term.Arg.{Arg}
use Rattle.chw_terms.specs.declared.term.Binding.{Binding}
use Rattle.chw_terms.specs.declared.term.Pattern.TheVariants.{OfCon, OfLit, Default}
use Rattle.chw_terms.specs.TermTree.{TermTree, var, letrec, con, lit, case_of, Group, size_of, Alts, no_alts, alt}
use Rattle.chw_terms.specs.TermView.{applied, group_of}
use Rattle.chw_terms.specs.Unrolled.{named}
use Rattle.chw_typing.specs.HeadTypes.{PatternOf, of_con, fields_at}
use Rattle.chw_typing.specs.Typing.{HasType}
use Rattle.chw_typing.specs.Groups.{each_body}
use Rattle.chw_typing.specs.Given.{types_then}
use Rattle.chw_typing.specs.Paths.{Branch}
use Rattle.rewriting.specs.Named.{IsNamed}
use Rattle.rewriting.specs.Origins.{Origins, setting_at}
use Rattle.rewriting.specs.Spots.{Spot}
use Rattle.rewriting.specs.Cases.{OfCases, case_con, case_lit, case_any, case_let, case_case, proj}
use Rattle.rewriting.specs.Shapes.{IsTakenBy, with_fields, or_body, projections, shift_alts}
use Rattle.flow_cases.specs.Given.{types_in, terms_in, AreJust}
use Rattle.flow_cases.specs.Moves.{fields_put}
use Rattle.flow_cases.specs.Ports.{IsPortCase}

pub let_made : (o : Origins) (at : Spot) (on : TermTree) (g : Group) (b : TermTree) (alts : Alts) (e : TermTree) → on ≡ letrec g b → e ≡ letrec g (case_of b (shift_alts alts 0 (size_of g))) → OfCases o at CaseLet (case_of on alts) e
let_made o at on g b alts e q r =
    subst (λ on. OfCases o at CaseLet (case_of on alts) e) (sym q)
    (subst (λ e. OfCases o at CaseLet (case_of (letrec g b) alts) e) (sym r) case_let)

pub any_made : (o : Origins) (at : Spot) (on : TermTree) (alts : Alts) (f e : TermTree) → alts ≡ alt Default f no_alts → e ≡ f → OfCases o at CaseCon (case_of on alts) e
any_made o at on alts f e q r =
    subst (λ alts. OfCases o at CaseCon (case_of on alts) e) (sym q)
    (subst (λ e. OfCases o at CaseCon (case_of on (alt Default f no_alts)) e) (sym r) case_any)

pub literal_made : (o : Origins) (at : Spot) (r : Scalar) (bits : List Bool) (alts : Alts) (b : Branch) (e : TermTree) → IsTakenBy (OfLit r bits) alts b → e ≡ b.body → OfCases o at CaseCon (case_of (lit r bits) alts) e
literal_made o at r bits alts b e d q =
    subst (λ e. OfCases o at CaseCon (case_of (lit r bits) alts) e) (sym q) (case_lit d)

pub constructor_made : (o : Origins) (at : Spot) (c : ConId) (it : Constructor) (args : List Arg) (alts : Alts) (b : Branch) (e : TermTree) → con_at o.program.datas c.number ≡ Some it → AreJust (length it.it.params) (length it.decl.fields) args → IsTakenBy (OfCon c (length it.decl.fields)) alts b → e ≡ with_fields b.pattern (fields_put it.decl.fields (types_in args)) (terms_in args) b.body → OfCases o at CaseCon (case_of (applied (con c.number) args) alts) e
constructor_made o at c it args alts b e i j d q =
    let types = types_in args in
    let es = terms_in args in
    let taken : IsTakenBy (OfCon (record { number = c.number }) (length es)) alts b = subst (λ n. IsTakenBy (OfCon c n) alts b) (sym j.on_terms) d in
    let made : OfCases o at CaseCon (case_of (applied (con c.number) (types_then types es)) alts) (with_fields b.pattern (fields_at it (trees_of types)) es b.body) =
    case_con c.number types es i j.on_types j.on_terms taken in
    subst (λ args. OfCases o at CaseCon (case_of (applied (con c.number) args) alts) e) (sym j.are)
    (subst (λ e. OfCases o at CaseCon (case_of (applied (con c.number) (types_then types es)) alts) e) (sym q) made)

pub case_moved : (o : Origins) (at : Spot) (on first : TermTree) (inner alts : Alts) (t : TypeTree) (e : TermTree) → on ≡ case_of first inner → HasType (setting_at o) [] at.vars on t → (IsNamed o.program.datas at.mode t → ⊥) → e ≡ case_of first (each_body (λ n f. case_of f (shift_alts alts 0 n)) inner) → OfCases o at CaseCase (case_of on alts) e
case_moved o at on first inner alts t e q h n r =
    subst (λ on. OfCases o at CaseCase (case_of on alts) e) (sym q)
    (subst (λ e. OfCases o at CaseCase (case_of (case_of first inner) alts) e) (sym r)
    (case_case (subst (λ on. HasType (setting_at o) [] at.vars on t) q h) n))

pub port_made : (o : Origins) (at : Spot) (on : TermTree) (alts : Alts) (x : ℕ) (c : ConId) (n : ℕ) (body : TermTree) (t : TypeTree) (fields : List TypeTree) (e : TermTree) → IsPortCase on alts x c n body → at.mode ≡ C → slice_get at.vars x ≡ Some t → IsPort o.program.datas t → PatternOf o.program.datas t (OfCon c n) fields → e ≡ or_body (named fields (projections c n x)) body → OfCases o at Proj (case_of on alts) e
port_made o at on alts x c n body t fields e i m s p d q =
    subst (λ on. OfCases o at Proj (case_of on alts) e) (sym i.variable)
    (subst (λ alts. OfCases o at Proj (case_of (var x) alts) e) (sym i.first)
    (subst (λ e. OfCases o at Proj (case_of (var x) (alt (OfCon c n) body i.more)) e) (sym q) (proj m s p d i.others i.whole)))

-- a let of names, where there are any
pub let_of_some : (bs : List Binding) (e : TermTree) → (bs ≡ [] → ⊥) → or_body (group_of bs) e ≡ letrec (group_of bs) e
let_of_some [] e some = absurd (some refl)
let_of_some (b ∷ bs) e some = refl

pub not_empty : {X : Type 0} (xs : List X) (n : ℕ) → n ≡ length xs → (n == 0) ≡ false → xs ≡ [] → ⊥
not_empty xs n q e r = let z : n ≡ 0 = q ∙ ap length r in let t : (n == 0) ≡ true = ap (λ n. n == 0) z in absurd cc

pub pattern_there : (datas : List Data) (it : Constructor) (c : ConId) (n d : ℕ) (args given fields : List TypeTree) (t : TypeTree) → con_at datas c.number ≡ Some it → d ≡ it.of → fields ≡ it.decl.fields → length fields ≡ n → given ≡ args → data_of d (trees_of args) ≡ t → PatternOf datas t (OfCon c n) (fields_put fields given)
pattern_there datas it c n d args given fields t i o f l g q =
    subst (λ t. PatternOf datas t (OfCon c n) (fields_put fields given)) q
    (subst (λ fs. PatternOf datas (data_of d (trees_of args)) (OfCon c n) (fields_put fs given)) (sym f)
    (subst (λ given. PatternOf datas (data_of d (trees_of args)) (OfCon c n) (fields_put it.decl.fields given)) (sym g)
    (of_con it i (sym o) (ap length (sym f) ∙ l))))

-- what is made of a literal without arguments
pub bare_literal_made : (o : Origins) (at : Spot) (r : Scalar) (bits : List Bool) (args : List Arg) (alts : Alts) (b : Branch) (e : TermTree) → args ≡ [] → IsTakenBy (OfLit r bits) alts b → e ≡ b.body → OfCases o at CaseCon (case_of (applied (lit r bits) args) alts) e
bare_literal_made o at r bits args alts b e none d q =
    subst (λ args. OfCases o at CaseCon (case_of (applied (lit r bits) args) alts) e) (sym none) (literal_made o at r bits alts b e d q)
