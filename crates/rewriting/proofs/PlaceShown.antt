-- The worked examples.
use Rattle.std.specs.Prelude.{Some}
use Rattle.std.proofs.Common.{◌≡◌, ℕ, refl, sym, ◌∙◌, subst, true, List, [], ◌∷◌, arith, inl, ◌≤◌, ◌<◌}
use Rattle.chw_types.specs.BuiltIn.{built_in}
use Rattle.chw_types.specs.declared.declarations.Data.{Data}
use Rattle.chw_types.specs.declared.kind.Scalar.{Scalar}
use Rattle.chw_types.specs.declared.kind.Scalar.TheVariants.{U}
use Rattle.type_ports.specs.declared.ports.Leaf.{Leaf}
use Rattle.chw_types.specs.TypeTree.{TypeTree, nat_lit, domain, scalar, fun, signal}
use Rattle.type_ports.specs.Representable.{Representable, representable_data, none_to_represent}
use Rattle.type_ports.specs.Ports.{Leaves, one_leaf, leaves_of_fields}
use Rattle.chw_prims.specs.declared.prim.Primitive.TheVariants.{AddU, Ap, Register}
use Rattle.chw_prims.specs.Schemas.{bool}
use Rattle.chw_terms.specs.declared.scene.Mode.TheVariants.{V}
use Rattle.chw_terms.specs.declared.term.Arg.TheVariants.{OfTerm, OfType}
use Rattle.chw_terms.specs.TermTree.{TermTree, var, lam, con, prim, lit, case_of, Group, no_bindings, bind, size_of, no_alts, alt}
use Rattle.chw_terms.specs.TermView.{applied}
use Rattle.chw_terms.specs.declared.term.Arg.{Arg}
use Rattle.chw_terms.specs.declared.scene.Mode.{Mode}
use Rattle.chw_typing.specs.Groups.{binding_at}
use Rattle.rewriting.specs.Named.{IsNamed}
use Rattle.rewriting.specs.Origins.{Origins}
use Rattle.chw_terms.specs.declared.term.Pattern.TheVariants.{Default}
use Rattle.chw_typing.specs.Examples.{five}
use Rattle.chw_typing.specs.Typing.{h_var, h_con, h_lit}
use Rattle.rewriting.specs.Active.{Below, right_side, let_body, constant_body, scrutinee, branch, of_constructor, of_words, of_element, of_vector, demanded, begins, at_it, below}
use Rattle.rewriting.specs.PlaceExamples.{NamedSide, UnnamedSide, LetBody, ConstantScrutinee, DemandedFunctions, FirstContent, ConstantArgument, NoWordsInValues, TwoSteps, two_sides, functions}
use Rattle.rewriting.specs.Spots.{Spot, spot}
use Rattle.rewriting.proofs.OneStep.{head_of, head_applied, InPrim, to_word, to_demanded, to_beginning, leads}

bool_named : Representable built_in bool
bool_named = representable_data refl refl none_to_represent

no_functions : {datas : List Data} {a b : TypeTree} → Representable datas (fun a b) → ⊥
no_functions r = elim r [ ]

-- the payload of a signal that is a port is representable
payload : {datas : List Data} {t d u : TypeTree} {ls : List Leaf} → Leaves datas t ls → t ≡ signal d u → Representable datas u
payload {datas} (one_leaf {t = t} r) h = let is : t ≡ _ = cc in subst (Representable datas) is r
payload (leaves_of_fields a b c d e) h = absurd cc

no_word_is_port : {datas : List Data} {x : Scalar} {w : TypeTree} {ls : List Leaf} → Leaves datas (scalar x w) ls → ⊥
no_word_is_port r = elim r [ ]

abbrev sides : Group
sides = bind bool (con 1) (bind (fun bool bool) (lam bool (var 0)) no_bindings)

pub named_side : NamedSide
named_side = right_side {i = 0} tt refl bool_named

-- of `letrec { x; f; }` the second right side is no function's where it is active
no_function_side : (datas : List Data) (m : Mode) (g : Group) (i : ℕ) (b : TypeTree × TermTree) → m ≡ V → g ≡ sides → i ≡ 1 → binding_at g i ≡ Some b → IsNamed datas m b.0 → ⊥
no_function_side datas m g i b v is second s n =
    let found : binding_at sides 1 ≡ Some b = subst (λ k. binding_at sides k ≡ Some b) second (subst (λ h. binding_at h i ≡ Some b) is s) in
    let same : b.0 ≡ fun bool bool = cc in
    no_functions (subst (Representable datas) same (subst (λ k. IsNamed datas k b.0) v n))

not_body : (g : Group) → g ≡ sides → size_of g ≡ 1 → ⊥
not_body g is one = let two : size_of sides ≡ 1 = subst (λ h. size_of h ≡ 1) is one in absurd cc

no_spine : (args : List Arg) (h : TermTree) → head_of h ≡ h → (h ≡ two_sides → ⊥) → head_of (applied h args) ≡ two_sides → ⊥
no_spine args h is not e = not (sym (head_applied args h ∙ is) ∙ e)

no_second : {o : Origins} {at at' : Spot} {e x : TermTree} {p : List ℕ} → Below o at e p at' x → at.mode ≡ V → head_of e ≡ two_sides → p ≡ 1 ∷ [] → ⊥
no_second {o} {at} (right_side {g = g} {i = i} {b = b} l s n) v is q =
    let group : g ≡ sides = cc in
    let second : i ≡ 1 = cc in
    no_function_side o.program.datas at.mode g i b v group second s n
no_second (let_body {g = g} l) v is q =
    let group : g ≡ sides = cc in
    let one : size_of g ≡ 1 = cc in
    not_body g group one
no_second (constant_body k) v is q = absurd cc
no_second (scrutinee d n) v is q = absurd cc
no_second (branch w s n b r) v is q = absurd cc
no_second (of_constructor c i args k s l r) v is q = no_spine args (con c) refl (λ e. absurd cc) is
no_second (of_words p i args k w l m r) v is q = no_spine args (prim p) refl (λ e. absurd cc) is
no_second (of_element p i args k w m r) v is q = no_spine args (prim p) refl (λ e. absurd cc) is
no_second (of_vector k s) v is q = absurd cc
no_second (demanded {p = p} {args = args} d) v is q = no_spine args (prim p) refl (λ e. absurd cc) is
no_second (begins p i j args m b t w r) v is q = no_spine args (prim p) refl (λ e. absurd cc) is

pub unnamed_side : UnnamedSide
unnamed_side at' x b = no_second b refl refl refl

pub body_below : LetBody
body_below = let_body tt

pub constant_scrutinee : ConstantScrutinee
constant_scrutinee = scrutinee (h_lit (omega arith)) (λ n. no_word_is_port n.1)

pub demanded_functions : DemandedFunctions
demanded_functions =
    demanded {p = Ap} {i = 3} {args = OfType (domain 0) ∷ OfType bool ∷ OfType bool ∷ OfTerm (var 1) ∷ OfTerm (var 0) ∷ []} {a = var 1}
    (record { no_constant = λ k. absurd cc; looks = inl refl; is = refl; type = functions; has = h_var refl; unnamed = λ n. no_functions (payload n.1 refl) })

pub first_content : FirstContent
first_content = begins Register 2 1 (OfType (domain 0) ∷ OfType bool ∷ OfTerm (con 1) ∷ OfTerm (var 0) ∷ []) refl (refl, refl) refl bool_named refl

pub constant_argument : ConstantArgument
constant_argument =
    let enough : 3 ≤ 3 = omega arith in
    let third : 2 < 3 = omega arith in
    of_words AddU 2 (OfType (nat_lit 8) ∷ OfTerm (lit U five) ∷ OfTerm (lit U five) ∷ []) refl tt enough third refl

no_words : {at' : Spot} → InPrim (spot V true []) AddU at' → ⊥
no_words (to_word k is) = absurd cc
no_words (to_demanded i n l is) = l
no_words (to_beginning i j m b is) = b

pub no_words_in_values : NoWordsInValues
no_words_in_values p at' x b = no_words (leads b)

pub two_steps : TwoSteps
two_steps =
    let chosen : TermTree = case_of (con 1) (alt Default (con 0) no_alts) in
    below {p = 0 ∷ 1 ∷ []} {q = 0 ∷ []}
    (begins Register 2 1 (OfType (domain 0) ∷ OfType bool ∷ OfTerm chosen ∷ OfTerm (var 0) ∷ []) {a = chosen} refl (refl, refl) refl bool_named refl)
    (below {p = 0 ∷ []} {q = []} (scrutinee {alts = alt Default (con 0) no_alts} {u = bool} (h_con refl) (λ n. n)) at_it)
