-- Patterns for values of a type, their words, and the numbers of constructors.
use Rattle.std.proofs.Common.{◌≡◌, ◌∙◌, sym, ap, refl, subst, ℕ, zero, suc, ◌+◌, ◌-◌, ◌<◌, ◌≤◌, arith, Bool, List, [], ◌∷◌, ◌++◌, map, drop, drop-cons, length, get_or, append_assoc, append-nil, Some, None}
use Rattle.chw_base.specs.declared.index.ConId.{ConId}
use Rattle.chw_base.specs.declared.index.WireId.{WireId}
use Rattle.chw_types.specs.declared.declarations.Data.{Data}
use Rattle.chw_types.specs.declared.kind.Scalar.{Scalar}
use Rattle.chw_types.specs.Arguments.{arguments}
use Rattle.chw_types.specs.TypeMoves.{sub}
use Rattle.chw_types.specs.TypeTree.{TypeTree, TypeTrees, data_of}
use Rattle.chw_types.specs.TypeView.{tree_of as node_tree, trees_of}
use Rattle.chw_types.specs.declared.ty.TyNode.{TyNode}
use Rattle.chw_types.specs.declared.ty.TyNode.TheVariants.{DataOf}
use Rattle.chw_terms.specs.Constructors.{Constructor, con_at, first_con}
use Rattle.chw_terms.specs.declared.term.Alt.{Alt}
use Rattle.chw_terms.specs.declared.term.Pattern.TheVariants.{OfCon, OfLit}
use Rattle.chw_terms.specs.TermTree.{TermTree, con}
use Rattle.chw_terms.specs.TermView.{alts_of}
use Rattle.chw_typing.specs.HeadTypes.{PatternOf, of_con, of_lit}
use Rattle.chw_layout.specs.Encodes.{first_constructor}
use Rattle.chw_layout.specs.Measured.{fits, MeasuredFields, tag_width}
use Rattle.net_built.specs.Bodies.{ValueCells, value_constructor}
use Rattle.net_built.specs.Circuits.{Ground}
use Rattle.net_built.specs.Data.{constructed, word_of, words_of}
use Rattle.net_built.specs.Terms.{Variable, wires_of_all}
use Rattle.net_built.specs.Wires.{Piece, ◌▸◌}
use Rattle.value_build.specs.Added.{Adds, next}
use Rattle.value_build.specs.Tests.{first_of}
use Rattle.value_build.proofs.Behind.{adds_one}
use Rattle.value_build.proofs.Operands.{left_of}

one_numbering : (datas : List Data) (d : ℕ) → first_constructor datas d ≡ first_con datas d
one_numbering [] d = refl
one_numbering (it ∷ more) zero = refl
one_numbering (it ∷ more) (suc d) = ap (λ n. length it.cons + n) (one_numbering more d)

-- the number of a constructor among those of its data type
pub place_is : (datas : List Data) (n place d at : ℕ) (args : TypeTrees) (t : TypeTree)
    → n ≡ first_con datas at + place → d ≡ at → data_of d args ≡ t → place ≡ n - first_of datas t
place_is datas n place d at args t number same is =
    let first : first_of datas t ≡ first_con datas at =
    ap (first_of datas) (sym is) ∙ one_numbering datas d ∙ ap (first_con datas) same in
    omega (arith, first, number)

-- a pattern for a constructor
pub pattern_there : (datas : List Data) (it : Constructor) (c : ConId) (n d : ℕ) (args given fields done : List TypeTree) (t : TypeTree)
    → con_at datas c.number ≡ Some it → d ≡ it.of → fields ≡ it.decl.fields → length fields ≡ n → given ≡ args
    → data_of d (trees_of args) ≡ t → done ≡ map (λ f. sub f (arguments (trees_of given))) fields
    → PatternOf datas t (OfCon c n) done
pattern_there datas it c n d args given fields done t is of are count same type made =
    subst (PatternOf datas t (OfCon c n)) (sym made)
    (subst (λ u. PatternOf datas u (OfCon c n) (map (λ f. sub f (arguments (trees_of given))) fields)) type
    (subst (λ fs. PatternOf datas (data_of d (trees_of args)) (OfCon c n) (map (λ f. sub f (arguments (trees_of given))) fs)) (sym are)
    (subst (λ ts. PatternOf datas (data_of d (trees_of args)) (OfCon c n) (map (λ f. sub f (arguments (trees_of ts))) it.decl.fields)) (sym same)
    (of_con it is (sym of) (ap length (sym are) ∙ count)))))

-- the constructor of a pattern for values of the type
pub record IsOfCon (datas : List Data) (t : TypeTree) (c n : ℕ) : Type 0 where
  pub it : Constructor
  pub at : con_at datas c ≡ Some it
  pub args : TypeTrees
  pub ty : t ≡ data_of it.of args
  pub count : length it.decl.fields ≡ n

pub of_con_is : {datas : List Data} {t : TypeTree} {c : ConId} {n : ℕ} {fs : List TypeTree} → PatternOf datas t (OfCon c n) fs → IsOfCon datas t c.number n
of_con_is (of_con {ts = ts} it at of count) = record { it = it; at = at; args = ts; ty = ap (λ k. data_of k ts) (sym of); count = count }

pub con_there : (datas : List Data) (c : ℕ) (it : Constructor) → con_at datas c ≡ Some it → con_at datas c ≡ None → ⊥
con_there datas c it at none = let both : Some it ≡ None = sym at ∙ none in absurd cc

pub con_once : (datas : List Data) (c : ℕ) (a b : Constructor) → con_at datas c ≡ Some a → con_at datas c ≡ Some b → a ≡ b
con_once datas c a b at there = let both : Some a ≡ Some b = sym at ∙ there in cc

abbrev IsData : TypeTree → Type 0
IsData (data_of d ts) = Unit {0}
IsData _ = ⊥

other_node : (node : TyNode) → ((x : _) (y : _) → node ≡ DataOf x y → ⊥) → IsData (node_tree node) → ⊥
other_node (DataOf x y) n r = n x y refl
other_node _ n r = r

-- data is of a data type
pub no_other_node : (node : TyNode) (t : TypeTree) (d : ℕ) (ts : TypeTrees) → node_tree node ≡ t → t ≡ data_of d ts
    → ((x : _) (y : _) → node ≡ DataOf x y → ⊥) → ⊥
no_other_node node t d ts is ty n = other_node node n (subst IsData (sym (is ∙ ty)) tt)

pub data_number : (a b : ℕ) (ts us : TypeTrees) → data_of a ts ≡ data_of b us → a ≡ b
data_number a b ts us e = cc

pub literal_fields : {datas : List Data} {t : TypeTree} {s : Scalar} {bits : List Bool} {fs : List TypeTree} → PatternOf datas t (OfLit s bits) fs → PatternOf datas t (OfLit s bits) []
literal_fields (of_lit l s) = of_lit l s

-- the cells of a constructor
pub constructor_made : (ground : Ground) (scope : List Variable) (w c place fields tag : ℕ) (types : List TypeTree) (es : List TermTree)
    (it : Constructor) (decl : List TypeTree) (wires : List WireId) (s t : Piece)
    → con_at ground.datas c ≡ Some it → c ≡ first_con ground.datas it.of + place
    → MeasuredFields ground.datas decl (arguments (trees_of types)) (fits fields) → decl ≡ it.decl.fields
    → tag ≡ tag_width (length it.it.cons) → wires ≡ wires_of_all scope es
    → t ≡ s ▸ constructed tag place fields w (next s) wires
    → Adds (ValueCells ground scope (next s) w (con c) types es) s t
constructor_made ground scope w c place fields tag types es it decl wires s t there number measured are wide on is =
    let one : first_constructor ground.datas it.of ≡ first_con ground.datas it.of = one_numbering ground.datas it.of in
    let at : place ≡ c - first_constructor ground.datas it.of = omega (arith, number, one) in
    adds_one (ValueCells ground scope (next s) w (con c) types es) s t
    (constructed (tag_width (length it.it.cons)) (c - first_constructor ground.datas it.of) fields w (next s) (wires_of_all scope es))
    (is ∙ (λ i. s ▸ constructed (wide i) (at i) fields w (next s) (on i)))
    (value_constructor there (subst (λ fs. MeasuredFields ground.datas fs (arguments (trees_of types)) (fits fields)) are measured))

-- the word of the first alternative of those that are left, where it isn't the last
first_word : (bits first : ℕ) (alts : List Alt) (j : ℕ) (a : Alt) → j + 1 < length alts → a ≡ get_or alts j a
    → words_of bits first (alts_of (drop j alts)) ≡ word_of bits first a.pattern ∷ words_of bits first (alts_of (drop (j + 1) alts))
first_word bits first alts j a l is =
    let rest = drop-cons alts (j + 1) a l in
    ap (λ ds. words_of bits first (alts_of ds)) (left_of alts j a (omega (arith, l)) is)
    ∙ ap (λ ds. words_of bits first (alts_of (a ∷ ds))) rest
    ∙ ap (λ ds. word_of bits first a.pattern ∷ words_of bits first (alts_of ds)) (sym rest)

-- one more word
pub words_grown : (bits first : ℕ) (alts : List Alt) (i : ℕ) (a : Alt) (w : List Bool) (before later all : List (List Bool))
    → 0 < i → i < length alts → a ≡ get_or alts (i - 1) a → w ≡ word_of bits first a.pattern → later ≡ before ++ w ∷ []
    → before ++ words_of bits first (alts_of (drop (i - 1) alts)) ≡ all
    → later ++ words_of bits first (alts_of (drop (i + 1 - 1) alts)) ≡ all
words_grown bits first alts i a w before later all some l is same grown so =
    let j : ℕ = i - 1 in
    let at : i + 1 - 1 ≡ j + 1 = omega (arith, some) in
    let rest : List (List Bool) = words_of bits first (alts_of (drop (j + 1) alts)) in
    (λ k. grown k ++ words_of bits first (alts_of (drop (at k) alts)))
    ∙ append_assoc before (w ∷ []) rest
    ∙ ap (λ v. before ++ (v ∷ rest)) same
    ∙ ap (λ ws. before ++ ws) (sym (first_word bits first alts j a (omega (arith, l, some)) is))
    ∙ so

no_words : (bits first : ℕ) (alts : List Alt) (j : ℕ) → length alts ≤ j + 1 → words_of bits first (alts_of (drop j alts)) ≡ []
no_words bits first [] zero l = refl
no_words bits first [] (suc j) l = refl
no_words bits first (a ∷ []) zero l = refl
no_words bits first (a ∷ b ∷ alts) zero l = absurd (omega (arith, l))
no_words bits first (a ∷ alts) (suc j) l = no_words bits first alts j (omega (arith, l))

pub words_whole : (bits first : ℕ) (alts : List Alt) (i : ℕ) (done all : List (List Bool)) → length alts ≤ i
    → done ++ words_of bits first (alts_of (drop (i - 1) alts)) ≡ all → done ≡ all
words_whole bits first alts i done all l so =
    sym (append-nil done) ∙ ap (λ ws. done ++ ws) (sym (no_words bits first alts (i - 1) (omega (arith, l)))) ∙ so
