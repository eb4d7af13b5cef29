-- A vector with one element replaced: what the primitive is unrolled to has its type.
use Rattle.std.proofs.Common.{◌≡◌, ℕ, ◌<◌, ◌≤◌, ◌^◌, Bool, true, false, if◌then◌else◌, refl, sym, subst, List, [], ◌∷◌, map, nat_lt, arith}
use Rattle.std.specs.Prelude.{Some}
use Rattle.chw_types.specs.declared.kind.Kind.{Kind}
use Rattle.chw_types.specs.declared.kind.Kind.TheVariants.{Val}
use Rattle.chw_types.specs.declared.kind.Scalar.TheVariants.{U}
use Rattle.chw_types.specs.TypeTree.{TypeTree, ty_var, nat_lit, scalar, vector, fun}
use Rattle.chw_types.specs.TypeMoves.{rename, up, sub, up_by, put_at}
use Rattle.chw_types.specs.Kinds.{KindOf, kind_nat, kind_scalar, kind_data, kind_fun, no_kinds}
use Rattle.chw_types.specs.SameTypes.{SameTypes, same_vector, same_scalar}
use Rattle.chw_types.proofs.SameLaws.{same_self, same_turned}
use Rattle.chw_prims.specs.declared.prim.Primitive.TheVariants.{EqU}
use Rattle.chw_prims.specs.declared.row.Row.TheVariants.{Replaced}
use Rattle.chw_prims.specs.Schemas.{bool}
use Rattle.chw_terms.specs.declared.term.Pattern.TheVariants.{OfCon}
use Rattle.chw_terms.specs.TermTree.{TermTree, var, ty_app, prim}
use Rattle.chw_terms.specs.Evaluated.{evaluated}
use Rattle.chw_terms.specs.Unrolled.{each, vec_of, element, where_equal, body_of}
use Rattle.chw_typing.specs.Scopes.{Setting, HasKind}
use Rattle.chw_typing.specs.HeadTypes.{widest, PatternOf, of_con}
use Rattle.chw_typing.specs.Programs.{IsSound}
use Rattle.chw_typing.specs.Typing.{Binds, HasType, h_var, h_app, h_ty_app, h_prim, h_case, none_give, give_and}
use Rattle.chw_typing.proofs.Kinded.{term_type}
use Rattle.unroll_laws.proofs.Elements.{element_typed, index_typed, has_itself, each_typed}
use Rattle.unroll_laws.proofs.Kept.{Call, Keeps}
use Rattle.unroll_laws.proofs.Shapes.{kept_twice}
use Rattle.unroll_laws.proofs.Sized.{TwiceSized, is_twice_sized, twice_sized_view, number_same, width_fits}

-- the type of truth values, and its two patterns
bool_kind : (s : Setting) (kinds : List Kind) → IsSound s → HasKind s kinds bool Val
bool_kind s kinds h = subst (λ datas. KindOf datas s.domains kinds bool Val) (sym h.begins.1) (kind_data refl no_kinds)

binds_true : (s : Setting) (kinds : List Kind) → IsSound s → Binds s kinds bool (OfCon (record { number = 1 }) 0) []
binds_true s kinds h =
    record { fields = []; pattern = subst (λ datas. PatternOf datas bool (OfCon (record { number = 1 }) 0) []) (sym h.begins.1) (of_con _ refl refl refl); same = tt; typed = tt }

binds_false : (s : Setting) (kinds : List Kind) → IsSound s → Binds s kinds bool (OfCon (record { number = 0 }) 0) []
binds_false s kinds h =
    record { fields = []; pattern = subst (λ datas. PatternOf datas bool (OfCon (record { number = 0 }) 0) []) (sym h.begins.1) (of_con _ refl refl refl); same = tt; typed = tt }

-- the primitive that compares words of k bits
equal_typed : (s : Setting) (kinds : List Kind) (vars : List TypeTree) (k : ℕ) → IsSound s → HasType s kinds vars (ty_app (prim EqU) (nat_lit k)) (fun (scalar U (nat_lit k)) (fun (scalar U (nat_lit k)) bool))
unfolding put_at up_by up sub rename
equal_typed s kinds vars k h =
    h_ty_app h_prim kind_nat (same_self _) (kind_fun (kind_scalar kind_nat) (kind_fun (kind_scalar kind_nat) (bool_kind s kinds h) tt) tt)

where_equal_typed : (s : Setting) (kinds : List Kind) (vars : List TypeTree) (k j : ℕ) (w t : TypeTree) (i x e : TermTree) → IsSound s → k ≤ widest → SameTypes (nat_lit k) w → HasKind s kinds t Val → HasType s kinds vars i (scalar U w) → HasType s kinds vars x t → HasType s kinds vars e t → HasType s kinds vars (where_equal k i j x e) t
where_equal_typed s kinds vars k j w t i x e h l y of_t d f g =
    h_case
    (h_app (h_app (equal_typed s kinds vars k h) d (same_scalar y)) (index_typed s kinds vars k j l) (same_self _))
    tt (bool_kind s kinds h) (binds_true s kinds h) f of_t tt (give_and (binds_false s kinds h) g (same_self t) none_give)
    (((λ e. absurd (omega arith)), tt), (tt, tt))

-- vreplace v i x
abbrev replaced_body : ℕ → ℕ → TypeTree → TermTree
replaced_body n k a =
    vec_of a (each n (λ j. if nat_lt j (2 ^ k) then where_equal k (var 1) j (var 0) (element Val n a (var 2) j) else element Val n a (var 2) j))

either_typed : {s : Setting} {kinds : List Kind} {vars : List TypeTree} {e f : TermTree} {t : TypeTree} (b : Bool) → HasType s kinds vars e t → HasType s kinds vars f t → HasType s kinds vars (if b then e else f) t
either_typed true d g = d
either_typed false d g = g

replaced_typed : (s : Setting) (kinds : List Kind) (vars : List TypeTree) (n k : ℕ) (a v w : TypeTree) → IsSound s → HasKind s kinds a Val → k ≤ widest → SameTypes (nat_lit k) w → SameTypes (vector (nat_lit n) a) v → HasType s kinds (a ∷ scalar U w ∷ v ∷ vars) (replaced_body n k a) (vector (nat_lit n) a)
replaced_typed s kinds vars n k a v w h of_a small y x =
    each_typed s kinds scope a n (λ j. if nat_lt j (2 ^ k) then where_equal k (var 1) j (var 0) (element Val n a (var 2) j) else element Val n a (var 2) j) (term_type s kinds a Val of_a tt)
    (λ j l. has_itself (either_typed (nat_lt j (2 ^ k)) (where_equal_typed s kinds scope k j w a (var 1) (var 0) (element Val n a (var 2) j) h small y of_a (h_var refl) (h_var refl) (one j l)) (one j l)))
  where
    scope : List TypeTree
    scope = a ∷ scalar U w ∷ v ∷ vars

    one : (j : ℕ) → j < n → HasType s kinds scope (element Val n a (var 2) j) a
    one j l = element_typed s kinds scope Val n j a v (var 2) tt of_a l (h_var refl) x

replaced_at : {types : List TypeTree} {body : TermTree} (args : List TermTree) → TwiceSized replaced_body types body → (c : Call Replaced types args) → Keeps Replaced types args c body
unfolding sub evaluated
replaced_at args (is_twice_sized {size = size} {other = other} {a = a} n k e f) c =
    kept_twice Replaced size other a args c n k Val (vector (ty_var 2) (ty_var 0) ∷ scalar U (ty_var 1) ∷ ty_var 0 ∷ []) (vector (ty_var 2) (ty_var 0)) (replaced_body n k (evaluated a)) e f tt refl c.many
    (λ of_a. record {
      type = vector (nat_lit n) (evaluated a);
      has = replaced_typed c.s c.kinds c.vars n k (evaluated a) (vector (evaluated size) (evaluated a)) (evaluated other) c.sound of_a (width_fits other k f c.narrow.0) (number_same other k f)
          (same_vector (number_same size n e) (same_self (evaluated a)));
      same = same_vector (same_turned (number_same size n e)) (same_self (evaluated a));
    })

pub replaced : (types : List TypeTree) (args : List TermTree) (body : TermTree) → body_of Replaced (map evaluated types) ≡ Some body → (c : Call Replaced types args) → Keeps Replaced types args c body
replaced types args body e c = replaced_at args (twice_sized_view replaced_body types body e) c
