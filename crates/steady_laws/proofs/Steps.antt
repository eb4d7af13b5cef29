-- What constructors and primitives do with steady arguments.
use Rattle.std.specs.Prelude.{Bool, true, false, nat_lt, ◌^◌, if◌then◌else◌, Option, Some, None}
use Rattle.std.proofs.Common.{ℕ, suc, zero, List, [], ◌∷◌}
use Rattle.chw_types.specs.declared.declarations.Data.{Data}
use Rattle.chw_types.specs.TypeTree.{TypeTree, TypeTrees, no_types, type_and}
use Rattle.chw_prims.specs.declared.prim.Primitive.{Primitive as Prim}
use Rattle.chw_prims.specs.declared.row.Row.{Row}
use Rattle.chw_prims.specs.declared.row.Row.TheVariants.{Binary, WideSum, WideProduct, Unary, Shift, Compare, Extend, Truncate, Cut, Joined, Reduce, Packed, Unpacked, Mapping, Applying, Constant, Delay, Memory, Crossing, Element, ElementAt, Replaced, Mapped, Zipped, FoldedLeft, FoldedRight, Generated, Replicated, Appended, Concatenated, Taken, Dropped, Reversed, Rotated}
use Rattle.chw_prims.specs.Schemas.{row_of}
use Rattle.prim_bits.specs.Widths.{argument_widths}
use Rattle.chw_terms.specs.declared.program.Program.{Program}
use Rattle.chw_layout.specs.Measured.{closed_value}
use Rattle.chw_meaning.specs.Values.{Head, con_head, prim_head, Value, Thunk, Thunks}
use Rattle.chw_meaning.specs.Steps.{Step, gives, goes_to, computes, looks_up, stuck, lacks, each_from, each, folded_left, folded_right, concatenated, replaced, at_index, naturals, on_words, types_2, types_3, types_4, thunks_1, thunks_2, thunks_3, by_row, saturated, step}
use Rattle.chw_meaning.specs.Eval.{truth_of, result_by, result}
use Rattle.steady_laws.specs.Steady.{IsSteadyRow, IsSteadyHead, SteadyValue, steady_bits, steady_con, steady_vec, steady_partial, SteadyThunk, steady_closed, steady_applied, steady_element, steady_known, SteadyThunks, steady_none, steady_and}
use Rattle.steady_laws.proofs.Parts.{joined_steady}

-- the step looks at no history
pub data SteadyStep (p : Program) : Step → Type 0 where
  step_gives : {v : Value} → SteadyValue p v → SteadyStep p (gives v)
  step_goes : {th : Thunk} → SteadyThunk p th → SteadyStep p (goes_to th)
  step_computes : {q : Prim} {nats widths : List ℕ} {ths : Thunks} → SteadyThunks p ths → SteadyStep p (computes q nats widths ths)
  step_looks_up : {last k : ℕ} {v i : Thunk} → SteadyThunk p v → SteadyThunk p i → SteadyStep p (looks_up last k v i)
  step_stuck : SteadyStep p stuck

-- vectors of steady thunks
pub each_steady : {p : Program} (j n : ℕ) (f : ℕ → Thunk) → ((i : ℕ) → SteadyThunk p (f i)) → SteadyThunks p (each_from j n f)
each_steady j zero f h = steady_none
each_steady j (suc n) f h = steady_and (h j) (each_steady (suc j) n f h)

each_given : {p : Program} (n : ℕ) (f : ℕ → Thunk) → ((i : ℕ) → SteadyThunk p (f i)) → SteadyStep p (gives (each n f))
each_given n f h = step_gives (steady_vec (each_steady zero n f h))

folded_left_steady : {p : Program} {f z v : Thunk} (j n : ℕ) → SteadyThunk p f → SteadyThunk p z → SteadyThunk p v → SteadyThunk p (folded_left j n f z v)
folded_left_steady j zero f z v = z
folded_left_steady j (suc n) f z v = folded_left_steady (suc j) n f (steady_applied (steady_applied f z) (steady_element v)) v

folded_right_steady : {p : Program} {f z v : Thunk} (j n : ℕ) → SteadyThunk p f → SteadyThunk p z → SteadyThunk p v → SteadyThunk p (folded_right j n f z v)
folded_right_steady j zero f z v = z
folded_right_steady j (suc n) f z v = steady_applied (steady_applied f (steady_element v)) (folded_right_steady (suc j) n f z v)

concatenated_steady : {p : Program} {v : Thunk} (q n m : ℕ) → SteadyThunk p v → SteadyThunks p (concatenated q n m v)
concatenated_steady q zero m v = steady_none
concatenated_steady q (suc n) m v = joined_steady (each_steady zero m _ (λ r. steady_element (steady_element v))) (concatenated_steady (suc q) n m v)

thunk_if : {p : Program} {x y : Thunk} (b : Bool) → SteadyThunk p x → SteadyThunk p y → SteadyThunk p (if b then x else y)
thunk_if true x y = x
thunk_if false x y = y

replaced_steady : {p : Program} {v i x : Thunk} (k j : ℕ) → SteadyThunk p v → SteadyThunk p i → SteadyThunk p x → SteadyThunk p (replaced k v i x j)
replaced_steady k j v i x =
    thunk_if (nat_lt j (2 ^ k)) (steady_closed (((tt, tt), tt), (tt, (tt, tt))) (steady_and i (steady_and x (steady_and (steady_element v) steady_none)))) (steady_element v)

index_steady : {p : Program} {v i : Thunk} (n k : ℕ) → SteadyThunk p v → SteadyThunk p i → SteadyStep p (at_index n k v i)
index_steady zero k v i = step_goes (steady_element v)
index_steady (suc n) k v i = step_looks_up v i

words_steady : {p : Program} {ths : Thunks} (q : Prim) (nats : List ℕ) (o : Option (List ℕ)) → SteadyThunks p ths → SteadyStep p (on_words q nats o ths)
words_steady q nats None s = step_stuck
words_steady q nats (Some widths) s = step_computes s

-- so many arguments
on_types_2 : {p : Program} (f : TypeTree → TypeTree → Step) (ts : TypeTrees) → ((a b : TypeTree) → SteadyStep p (f a b)) → SteadyStep p (types_2 ts f)
on_types_2 f no_types h = step_stuck
on_types_2 f (type_and b no_types) h = step_stuck
on_types_2 f (type_and b (type_and a no_types)) h = h a b
on_types_2 f (type_and b (type_and a (type_and t ts))) h = step_stuck

on_types_3 : {p : Program} (f : TypeTree → TypeTree → TypeTree → Step) (ts : TypeTrees) → ((a b c : TypeTree) → SteadyStep p (f a b c)) → SteadyStep p (types_3 ts f)
on_types_3 f no_types h = step_stuck
on_types_3 f (type_and c no_types) h = step_stuck
on_types_3 f (type_and c (type_and b no_types)) h = step_stuck
on_types_3 f (type_and c (type_and b (type_and a no_types))) h = h a b c
on_types_3 f (type_and c (type_and b (type_and a (type_and t ts)))) h = step_stuck

on_types_4 : {p : Program} (f : TypeTree → TypeTree → TypeTree → TypeTree → Step) (ts : TypeTrees) → ((a b c d : TypeTree) → SteadyStep p (f a b c d)) → SteadyStep p (types_4 ts f)
on_types_4 f no_types h = step_stuck
on_types_4 f (type_and d no_types) h = step_stuck
on_types_4 f (type_and d (type_and c no_types)) h = step_stuck
on_types_4 f (type_and d (type_and c (type_and b no_types))) h = step_stuck
on_types_4 f (type_and d (type_and c (type_and b (type_and a no_types)))) h = h a b c d
on_types_4 f (type_and d (type_and c (type_and b (type_and a (type_and t ts))))) h = step_stuck

on_thunks_1 : {p : Program} {ths : Thunks} (f : Thunk → Step) → SteadyThunks p ths → ((x : Thunk) → SteadyThunk p x → SteadyStep p (f x)) → SteadyStep p (thunks_1 ths f)
on_thunks_1 f steady_none h = step_stuck
on_thunks_1 f (steady_and {th = x} s steady_none) h = h x s
on_thunks_1 f (steady_and s (steady_and r more)) h = step_stuck

on_thunks_2 : {p : Program} {ths : Thunks} (f : Thunk → Thunk → Step) → SteadyThunks p ths → ((x y : Thunk) → SteadyThunk p x → SteadyThunk p y → SteadyStep p (f x y)) → SteadyStep p (thunks_2 ths f)
on_thunks_2 f steady_none h = step_stuck
on_thunks_2 f (steady_and s steady_none) h = step_stuck
on_thunks_2 f (steady_and {th = y} s (steady_and {th = x} r steady_none)) h = h x y r s
on_thunks_2 f (steady_and s (steady_and r (steady_and q more))) h = step_stuck

on_thunks_3 : {p : Program} {ths : Thunks} (f : Thunk → Thunk → Thunk → Step) → SteadyThunks p ths → ((x y z : Thunk) → SteadyThunk p x → SteadyThunk p y → SteadyThunk p z → SteadyStep p (f x y z)) → SteadyStep p (thunks_3 ths f)
on_thunks_3 f steady_none h = step_stuck
on_thunks_3 f (steady_and s steady_none) h = step_stuck
on_thunks_3 f (steady_and s (steady_and r steady_none)) h = step_stuck
on_thunks_3 f (steady_and {th = z} s (steady_and {th = y} r (steady_and {th = x} q steady_none))) h = h x y z q r s
on_thunks_3 f (steady_and s (steady_and r (steady_and q (steady_and o more)))) h = step_stuck

-- a line for each line of the table
row_steady : {p : Program} {ths : Thunks} (row : Row) (q : Prim) (ts : TypeTrees) → IsSteadyRow row → SteadyThunks p ths → SteadyStep p (by_row row q ts ths)
row_steady Mapping q ts r s = absurd r
row_steady Applying q ts r s = absurd r
row_steady Delay q ts r s = absurd r
row_steady Memory q ts r s = absurd r
row_steady Constant q ts r s = on_types_2 _ ts (λ d a. on_thunks_1 _ s (λ x v. step_goes v))
row_steady Crossing q ts r s = on_types_3 _ ts (λ d e a. on_thunks_1 _ s (λ x v. step_goes v))
row_steady (Element kind) q ts r s = on_types_3 _ ts (λ i n a. on_thunks_1 _ s (λ x v. step_goes (steady_element v)))
row_steady ElementAt q ts r s = on_types_3 _ ts (λ n k a. on_thunks_2 _ s (λ x y v i. index_steady (closed_value n) (closed_value k) v i))
row_steady Replaced q ts r s = on_types_3 _ ts (λ n k a. on_thunks_3 _ s (λ x y z v i w. each_given (closed_value n) _ (λ j. replaced_steady (closed_value k) j v i w)))
row_steady (Mapped kind) q ts r s = on_types_3 _ ts (λ n a b. on_thunks_2 _ s (λ x y f v. each_given (closed_value n) _ (λ j. steady_applied f (steady_element v))))
row_steady (Zipped kind) q ts r s =
    on_types_4 _ ts (λ n a b c. on_thunks_3 _ s (λ x y z f v w. each_given (closed_value n) _ (λ j. steady_applied (steady_applied f (steady_element v)) (steady_element w))))
row_steady (FoldedLeft kind) q ts r s = on_types_3 _ ts (λ n a b. on_thunks_3 _ s (λ x y w f z v. step_goes (folded_left_steady zero (closed_value n) f z v)))
row_steady (FoldedRight kind) q ts r s = on_types_3 _ ts (λ n a b. on_thunks_3 _ s (λ x y w f z v. step_goes (folded_right_steady zero (closed_value n) f z v)))
row_steady (Generated kind) q ts r s = on_types_3 _ ts (λ n k a. on_thunks_1 _ s (λ x f. each_given (closed_value n) _ (λ j. steady_applied f steady_known)))
row_steady (Replicated kind) q ts r s = on_types_2 _ ts (λ n a. on_thunks_1 _ s (λ x v. each_given (closed_value n) _ (λ j. v)))
row_steady (Appended kind) q ts r s =
    on_types_3 _ ts (λ n m a. on_thunks_2 _ s (λ x y v w. step_gives (steady_vec (joined_steady (each_steady zero (closed_value n) _ (λ j. steady_element v)) (each_steady zero (closed_value m) _ (λ j. steady_element w))))))
row_steady (Concatenated kind) q ts r s = on_types_3 _ ts (λ n m a. on_thunks_1 _ s (λ x v. step_gives (steady_vec (concatenated_steady zero (closed_value n) (closed_value m) v))))
row_steady (Taken kind) q ts r s = on_types_3 _ ts (λ n m a. on_thunks_1 _ s (λ x v. each_given (closed_value n) _ (λ j. steady_element v)))
row_steady (Dropped kind) q ts r s = on_types_3 _ ts (λ n m a. on_thunks_1 _ s (λ x v. each_given (closed_value m) _ (λ j. steady_element v)))
row_steady (Reversed kind) q ts r s = on_types_2 _ ts (λ n a. on_thunks_1 _ s (λ x v. each_given (closed_value n) _ (λ j. steady_element v)))
row_steady (Rotated kind) q ts r s = on_types_3 _ ts (λ n k a. on_thunks_1 _ s (λ x v. each_given (closed_value n) _ (λ j. steady_element v)))
row_steady (Binary x) q ts r s = words_steady q (naturals ts) (argument_widths (Binary x) (naturals ts)) s
row_steady (WideSum x) q ts r s = words_steady q (naturals ts) (argument_widths (WideSum x) (naturals ts)) s
row_steady (WideProduct x) q ts r s = words_steady q (naturals ts) (argument_widths (WideProduct x) (naturals ts)) s
row_steady (Unary x) q ts r s = words_steady q (naturals ts) (argument_widths (Unary x) (naturals ts)) s
row_steady (Shift x) q ts r s = words_steady q (naturals ts) (argument_widths (Shift x) (naturals ts)) s
row_steady (Compare x) q ts r s = words_steady q (naturals ts) (argument_widths (Compare x) (naturals ts)) s
row_steady (Extend x) q ts r s = words_steady q (naturals ts) (argument_widths (Extend x) (naturals ts)) s
row_steady (Truncate x) q ts r s = words_steady q (naturals ts) (argument_widths (Truncate x) (naturals ts)) s
row_steady Cut q ts r s = words_steady q (naturals ts) (argument_widths Cut (naturals ts)) s
row_steady Joined q ts r s = words_steady q (naturals ts) (argument_widths Joined (naturals ts)) s
row_steady Reduce q ts r s = words_steady q (naturals ts) (argument_widths Reduce (naturals ts)) s
row_steady (Packed x) q ts r s = words_steady q (naturals ts) (argument_widths (Packed x) (naturals ts)) s
row_steady (Unpacked x) q ts r s = words_steady q (naturals ts) (argument_widths (Unpacked x) (naturals ts)) s

saturated_steady : {p : Program} {ths : Thunks} (hd : Head) (ts : TypeTrees) → IsSteadyHead hd → SteadyThunks p ths → SteadyStep p (saturated hd ts ths)
saturated_steady (con_head c) ts r s = step_gives (steady_con s)
saturated_steady (prim_head q) ts r s = row_steady (row_of q) q ts r s

step_if : {p : Program} {x y : Step} (b : Bool) → SteadyStep p x → SteadyStep p y → SteadyStep p (if b then x else y)
step_if true x y = x
step_if false x y = y

pub step_steady : {p : Program} {ths : Thunks} (datas : List Data) (hd : Head) (ts : TypeTrees) → IsSteadyHead hd → SteadyThunks p ths → SteadyStep p (step datas hd ts ths)
step_steady {ths = ths} datas hd ts r s = step_if (lacks datas hd ts ths) (step_gives (steady_partial r s)) (saturated_steady hd ts r s)

-- the result of a primitive on words
truth_steady : (p : Program) (b : List Bool) → SteadyValue p (truth_of b)
truth_steady p [] = steady_con steady_none
truth_steady p (true ∷ []) = steady_con steady_none
truth_steady p (true ∷ (b ∷ bs)) = steady_con steady_none
truth_steady p (false ∷ bs) = steady_con steady_none

result_by_steady : (p : Program) (row : Row) (b : List Bool) → SteadyValue p (result_by row b)
result_by_steady p (Compare x) b = truth_steady p b
result_by_steady p Reduce b = truth_steady p b
result_by_steady p _ b = steady_bits

pub result_steady : (p : Program) (q : Prim) (b : List Bool) → SteadyValue p (result q b)
result_steady p q b = result_by_steady p (row_of q) b
