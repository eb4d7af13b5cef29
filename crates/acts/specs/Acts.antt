-- A value of a closed type acts as one of a set of values: whatever is done with it within so many
-- turns, the same done with that one leads to the same.
use Rattle.std.specs.Prelude.{◌≡◌, ℕ, suc, zero, Bool, List, [], ◌∷◌, length, reverse, Some}
use Rattle.chw_types.specs.declared.kind.Kind.{Kind}
use Rattle.chw_types.specs.TypeTree.{TypeTree, ty_var, nat_lit, nat_sum, nat_product, domain}
use Rattle.chw_types.specs.TypeTree.{scalar, vector, data_of, fun, signal, for_all, TypeTrees}
use Rattle.chw_types.specs.TypeMoves.{put}
use Rattle.chw_terms.specs.declared.program.Program.{Program}
use Rattle.chw_terms.specs.Constructors.{Constructor, con_at}
use Rattle.chw_terms.specs.Evaluated.{evaluated}
use Rattle.chw_typing.specs.Scopes.{HasKind}
use Rattle.chw_typing.specs.HeadTypes.{fields_at}
use Rattle.chw_typing.specs.Programs.{setting_of}
use Rattle.chw_layout.specs.Measured.{closed_value}
use Rattle.chw_meaning.specs.Values.{Value, bits, con_of, vec_of, Thunk, Thunks, none, thunk_and}
use Rattle.chw_meaning.specs.Eval.{Applies, TyApplies}
use Rattle.acts.specs.Levels.{Level, Levels, later, RunsAct, ThunksAct}

-- as many thunks on both sides as types, and each pair acts so at its type
abbrev pub AllAct : Program → Levels → List TypeTree → Thunks → Thunks → Type 0
AllAct p r (t ∷ ts) (thunk_and x' xs') (thunk_and x xs) =
    ThunksAct p r t x' x × AllAct p r ts xs' xs
AllAct p r [] none none = Unit {0}
AllAct p r _ _ _ = ⊥

-- as many thunks on both sides, and each pair acts so at the type
abbrev pub EachAct : Program → Levels → TypeTree → Thunks → Thunks → Type 0
EachAct p r t (thunk_and x' xs') (thunk_and x xs) = ThunksAct p r t x' x × EachAct p r t xs' xs
EachAct p r t none none = Unit {0}
EachAct p r t _ _ = ⊥

-- both are made by one constructor of the data type, and the fields act so; the last field stands
-- first
pub record BuiltActs
    (p : Program) (r : Levels) (d : ℕ) (ts : TypeTrees) (v' : Value) (s : Value → Type 0) : Type 0
  where
    pub tag : ℕ
    pub it : Constructor
    pub held : con_at p.datas tag ≡ Some it
    pub of_type : it.of ≡ d
    pub first : Thunks
    pub second : Thunks
    pub is : v' ≡ con_of tag first
    pub has_value : s (con_of tag second)
    pub parts : AllAct p r (reverse (fields_at it ts)) first second

-- both are vectors, and the elements act so
pub record VectorActs
    (p : Program) (r : Levels) (t : TypeTree) (v' : Value) (s : Value → Type 0) : Type 0
  where
    pub first : Thunks
    pub second : Thunks
    pub is : v' ≡ vec_of first
    pub has_value : s (vec_of second)
    pub parts : EachAct p r t first second

-- on thunks that act so, after any number of turns, the values act so
abbrev pub FunctionActs :
    Program → Levels → TypeTree → TypeTree → Value → (Value → Type 0) → Type 0
FunctionActs p r a b v' s =
    (i : ℕ) (x' x : Thunk) → ThunksAct p (later i r) a x' x
    → RunsAct (later i r) b (λ m h w. Applies p m v' x' h w)
    (λ h w. (v : Value) × s v × ((m : ℕ) × Applies p m v x h w))

-- on each closed type of the kind, with its naturals evaluated, the values act so
abbrev pub FamilyActs : Program → Levels → Kind → TypeTree → Value → (Value → Type 0) → Type 0
FamilyActs p r k t v' s =
    (c : TypeTree) → HasKind (setting_of p) [] c k → evaluated c ≡ c
    → RunsAct r (put t 0 c) (λ m h w. TyApplies p m v' c h w)
    (λ h w. (v : Value) × s v × ((m : ℕ) × TyApplies p m v c h w))

-- what is asked of a value with one turn at least, where r is what is asked after it. A word has
-- the width of its type, as the literals of a case have
abbrev pub act_step : Program → Levels → Level
act_step p r (ty_var x) v' s = Unit {0}
act_step p r (nat_lit n) v' s = Unit {0}
act_step p r (nat_sum a b) v' s = Unit {0}
act_step p r (nat_product a b) v' s = Unit {0}
act_step p r (domain d) v' s = Unit {0}
act_step p r (scalar x w) v' s =
    (b : List Bool) × (v' ≡ bits b) × s (bits b) × (length b ≡ closed_value w)
act_step p r (vector n t) v' s = VectorActs p r t v' s
act_step p r (data_of d ts) v' s = BuiltActs p r d ts v' s
act_step p r (fun a b) v' s = FunctionActs p r a b v' s
act_step p r (signal d a) v' s = act_step p r a v' s
act_step p r (for_all k t) v' s = FamilyActs p r k t v' s

-- number m is what is asked with so many turns less m
unfoldable pub acts_from : Program → ℕ → Levels
acts_from p zero m t v' s = Unit {0}
acts_from p (suc n) zero t v' s = act_step p (acts_from p n) t v' s
acts_from p (suc n) (suc m) t v' s = acts_from p n m t v' s
