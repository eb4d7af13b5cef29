-- A primitive on operands that show words.
use Rattle.std.specs.Prelude.{reverse, false}
use Rattle.std.proofs.Common.{◌≡◌, ◌+◌, ℕ, suc, zero, Bool, List, [], ◌∷◌, ◌++◌, length, map, Some, refl, sym, ap, ◌∙◌, subst, arith}
use Rattle.std.proofs.lemmas.List.{reverse-reverse, append-nil}
use Rattle.chw_types.specs.declared.kind.Scalar.{Scalar}
use Rattle.chw_types.specs.TypeTree.{TypeTree, scalar, TypeTrees, no_types}
use Rattle.chw_prims.specs.declared.prim.Primitive.{Primitive as Prim}
use Rattle.chw_prims.specs.declared.row.Row.{Row}
use Rattle.chw_prims.specs.declared.row.Row.TheVariants.{Binary, WideSum, WideProduct, Unary, Shift, Compare, Extend, Truncate, Cut, Joined, Reduce, Packed, Unpacked}
use Rattle.chw_prims.specs.Schemas.{row_of, row_type}
use Rattle.prim_bits.specs.Values.{value_of as word_value}
use Rattle.prim_bits.specs.Widths.{argument_widths}
use Rattle.prim_bits.proofs.Taken.{taken_from_value}
use Rattle.chw_terms.specs.declared.program.Program.{Program}
use Rattle.chw_terms.specs.Evaluated.{evaluated}
use Rattle.chw_terms.specs.TermTree.{TermTree, prim}
use Rattle.chw_terms.specs.TermView.{applied}
use Rattle.chw_typing.proofs.EvaluatedTypes.{same_evaluated}
use Rattle.chw_typing.proofs.Lists.{turned_onto}
use Rattle.chw_typing.specs.Given.{types_then}
use Rattle.chw_layout.specs.Measured.{closed_value, HasWidth}
use Rattle.chw_layout.proofs.Fitting.{scalar_width}
use Rattle.layout_laws.specs.SameLayout.{SameNumber}
use Rattle.chw_meaning.specs.Values.{History, Value, bits, Thunk, closed, Thunks, none, thunk_and, closed_type}
use Rattle.chw_meaning.specs.Steps.{types_asked, thunks_asked, naturals, on_words, by_row, computes}
use Rattle.chw_meaning.specs.Eval.{plus, result, result_by, Forces, f_closed, Runs, r_computes, Looks, l_empty, l_bits, Words, no_words, word_and}
use Rattle.carrying.specs.Carrying.{Holds, holds_word, Shows, shows_nothing, shows_bits}
use Rattle.carrying.specs.TermLaws.{onto, each_closed}
use Rattle.carrying.specs.WordLaws.{numbers_of, ShowWords, show_no_word, show_word, is_test}
use Rattle.carrying.proofs.Spines.{typed, typed_back, prim_whole}
use Rattle.carrying.proofs.Widths.{held_length, held_shows}

pub held_bits : {p : Program} {s : Scalar} {n : TypeTree} {v : Value} {b : List Bool} → Holds p (scalar s n) v b → v ≡ bits b
held_bits (holds_word l) = refl

look_bits : {p : Program} {n w : ℕ} {th : Thunk} {h : History} (b : List Bool) → length b ≡ suc w → Forces p n th h (bits b) → Looks p n (length b) th h b
look_bits [] e f = absurd (omega (arith, e))
look_bits (x ∷ b) e f = l_bits f

-- what a word's thunk shows is looked at
pub shown_looks : {p : Program} {s : Scalar} {n : TypeTree} {th : Thunk} {h : History} {b : List Bool} → Shows p (scalar s n) th h b → (m : ℕ) × Looks p m (length b) th h b
shown_looks (shows_nothing z) = (zero, l_empty)
shown_looks {p} {th = th} {h = h} {b = b} (shows_bits {n = m} wide f held) =
    (m, look_bits b (held_length held wide.1) (subst (λ v. Forces p m th h v) (held_bits held) f))

-- the words one after another before others, the last one first
words_onto : {p : Program} {h : History} {xs : List Thunk} {words : List (List Bool)} → ShowWords p h xs words → (ks : List ℕ) (ths : Thunks) (bs : List (List Bool)) → (m : ℕ) × Words p m ks ths h bs → (m : ℕ) × Words p m (reverse (map length words) ++ ks) (onto xs ths) h (reverse words ++ bs)
words_onto show_no_word ks ths bs d = d
words_onto {p} {h} (show_word {th = th} {ths = xs} {b = b} {words = words} s more) ks ths bs d =
    let one = shown_looks s in
    let all = words_onto more (length b ∷ ks) (thunk_and th ths) (b ∷ bs) (plus one.0 d.0, word_and one.1 d.1) in (
      all.0,
      subst (λ bs'. Words p all.0 (reverse (map length (b ∷ words)) ++ ks) (onto (th ∷ xs) ths) h bs') (sym (turned_onto b words bs))
          (subst (λ ks'. Words p all.0 ks' (onto (th ∷ xs) ths) h (reverse words ++ b ∷ bs)) (sym (turned_onto (length b) (map length words) ks)) all.1),
    )

pub words_all : {p : Program} {h : History} {xs : List Thunk} {words : List (List Bool)} → ShowWords p h xs words → (m : ℕ) × Words p m (reverse (map length words)) (onto xs none) h (reverse words)
words_all {p} {h} {xs} {words} s =
    let all = words_onto s [] none [] (zero, no_words) in (
      all.0,
      subst (λ bs. Words p all.0 (reverse (map length words)) (onto xs none) h bs) (append-nil (reverse words))
          (subst (λ ks. Words p all.0 ks (onto xs none) h (reverse words ++ [])) (append-nil (reverse (map length words))) all.1),
    )

as_many_words : {p : Program} {h : History} {xs : List Thunk} {words : List (List Bool)} → ShowWords p h xs words → length xs ≡ length words
as_many_words show_no_word = refl
as_many_words (show_word s more) = ap suc (as_many_words more)

as_many_widths : (words : List (List Bool)) → length (map length words) ≡ length words
as_many_widths [] = refl
as_many_widths (b ∷ words) = ap suc (as_many_widths words)

as_many_closed : (es : List TermTree) (γ : Thunks) (δ : TypeTrees) → length (each_closed es γ δ) ≡ length es
as_many_closed [] γ δ = refl
as_many_closed (e ∷ es) γ δ = ap suc (as_many_closed es γ δ)

as_many_numbers : (δ : TypeTrees) (types : List TypeTree) → length (numbers_of δ types) ≡ length types
as_many_numbers δ [] = refl
as_many_numbers δ (t ∷ types) = ap suc (as_many_numbers δ types)

many : (xs ys : List ℕ) → Some xs ≡ Some ys → length xs ≡ length ys
many xs ys e = let is : xs ≡ ys = cc in ap length is

-- a line on words asks for as many types as numbers, and for as many terms as words
asked : (row : Row) (nats widths : List ℕ) → argument_widths row nats ≡ Some widths → (types_asked (row_type row) ≡ length nats) × (thunks_asked (row_type row) ≡ length widths)
asked (Binary x) (n ∷ []) ws e = (refl, many (n ∷ n ∷ []) ws e)
asked (WideSum x) (n ∷ []) ws e = (refl, many (n ∷ n ∷ []) ws e)
asked (WideProduct x) (n ∷ m ∷ []) ws e = (refl, many (n ∷ m ∷ []) ws e)
asked (Unary x) (n ∷ []) ws e = (refl, many (n ∷ []) ws e)
asked (Shift x) (n ∷ k ∷ []) ws e = (refl, many (n ∷ k ∷ []) ws e)
asked (Compare x) (n ∷ []) ws e = (refl, many (n ∷ n ∷ []) ws e)
asked (Extend x) (n ∷ m ∷ []) ws e = (refl, many (n ∷ []) ws e)
asked (Truncate x) (n ∷ m ∷ []) ws e = (refl, many ((n + m) ∷ []) ws e)
asked Cut (l ∷ n ∷ u ∷ []) ws e = (refl, many ((u + n + l) ∷ []) ws e)
asked Joined (n ∷ m ∷ []) ws e = (refl, many (n ∷ m ∷ []) ws e)
asked Reduce (n ∷ []) ws e = (refl, many (n ∷ []) ws e)
asked (Packed x) (n ∷ []) ws e = (refl, many (n ∷ []) ws e)
asked (Unpacked x) (n ∷ []) ws e = (refl, many (n ∷ []) ws e)
asked _ nats ws e = absurd cc

-- and does what its primitive does on words
on_its_words : (row : Row) (q : Prim) (ts : TypeTrees) (ths : Thunks) (nats widths : List ℕ) → naturals ts ≡ nats → argument_widths row nats ≡ Some widths → by_row row q ts ths ≡ computes q nats (reverse widths) ths
on_its_words row q ts ths nats widths same takes = is row takes ∙ ap (λ ns. on_words q ns (argument_widths row ns) ths) same ∙ ap (λ ws. on_words q nats ws ths) takes
  where
    is : (row : Row) → argument_widths row nats ≡ Some widths → by_row row q ts ths ≡ on_words q (naturals ts) (argument_widths row (naturals ts)) ths
    is (Binary x) e = refl
    is (WideSum x) e = refl
    is (WideProduct x) e = refl
    is (Unary x) e = refl
    is (Shift x) e = refl
    is (Compare x) e = refl
    is (Extend x) e = refl
    is (Truncate x) e = refl
    is Cut e = refl
    is Joined e = refl
    is Reduce e = refl
    is (Packed x) e = refl
    is (Unpacked x) e = refl
    is _ e = absurd cc

numbers_typed : SameNumber → (δ : TypeTrees) (types : List TypeTree) → map closed_value (map (λ t. evaluated (closed_type t δ)) types) ≡ numbers_of δ types
numbers_typed same δ [] = refl
numbers_typed same δ (t ∷ types) =
    let e = same (closed_type t δ) (evaluated (closed_type t δ)) (same_evaluated (closed_type t δ)) in
    λ i. sym e i ∷ numbers_typed same δ types i

-- the numbers that a primitive is given
pub naturals_typed : SameNumber → (δ : TypeTrees) (types : List TypeTree) → naturals (typed δ types no_types) ≡ numbers_of δ types
naturals_typed same δ types = ap (map closed_value) (typed_back δ types) ∙ numbers_typed same δ types

-- the primitive on these types and terms has its value on their words
pub primitive_has : (p : Program) (q : Prim) (types : List TypeTree) (es : List TermTree) (γ : Thunks) (δ : TypeTrees) (h : History) (words : List (List Bool)) (b : List Bool) → SameNumber → word_value q (numbers_of δ types) words ≡ Some b → ShowWords p h (each_closed es γ δ) words → (m : ℕ) × Forces p m (closed (applied (prim q) (types_then types es)) γ δ) h (result q b)
primitive_has p q types es γ δ h words b same gives shown =
    let takes = (taken_from_value q (numbers_of δ types) words b gives).0.0 in
    let many = asked (row_of q) (numbers_of δ types) (map length words) takes in
    let all = words_all shown in
    let does = on_its_words (row_of q) q (typed δ types no_types) (onto (each_closed es γ δ) none) (numbers_of δ types) (map length words) (naturals_typed same δ types) takes in
    let run = r_computes all.1 (ap (word_value q (numbers_of δ types)) (reverse-reverse words) ∙ gives) in
    let d = prim_whole p q γ δ h types es
    (sym (many.0 ∙ as_many_numbers δ types))
    (sym (many.1 ∙ as_many_widths words ∙ sym (as_many_words shown) ∙ as_many_closed es γ δ))
    all.0 (result q b) (subst (λ s. Runs p all.0 s h (result q b)) (sym does) run) in
    (d.0, f_closed d.1)

word_result : (row : Row) (b : List Bool) → is_test row ≡ false → result_by row b ≡ bits b
word_result (Compare s) b e = absurd cc
word_result Reduce b e = absurd cc
word_result _ b e = refl

pub primitive_shows : (p : Program) (q : Prim) (types : List TypeTree) (es : List TermTree) (γ : Thunks) (δ : TypeTrees) (h : History) (words : List (List Bool)) (s : Scalar) (n : TypeTree) (b : List Bool) → SameNumber → word_value q (numbers_of δ types) words ≡ Some b → ShowWords p h (each_closed es γ δ) words → is_test (row_of q) ≡ false → HasWidth p.datas (scalar s n) (length b) → Shows p (scalar s n) (closed (applied (prim q) (types_then types es)) γ δ) h b
primitive_shows p q types es γ δ h words s n b same gives shown plain has =
    let f = primitive_has p q types es γ δ h words b same gives shown in
    held_shows (length b) has (subst (λ v. Forces p f.0 (closed (applied (prim q) (types_then types es)) γ δ) h v) (word_result (row_of q) b plain) f.1)
    (holds_word (scalar_width has))
