-- The first right side of a group that is a letrec, and terms that are letrecs.
use Rattle.std.proofs.Common.{◌≡◌, ◌∙◌, ◌<◌, ◌+◌, ◌-◌, ℕ, zero, suc, ap, sym, refl, subst, List, [], ◌∷◌, length, take, drop, get_or, arith}
use Rattle.std.proofs.lemmas.List.{take_all, take-append-drop, length-drop}
use Rattle.chw_terms.specs.declared.term.Arg.{Arg}
use Rattle.chw_terms.specs.declared.term.Binding.{Binding}
use Rattle.chw_terms.specs.declared.term.Head.{Head}
use Rattle.chw_terms.specs.declared.term.Head.TheVariants.{Var, Global, Made, Lam, TyLam, LetRec, Con, PrimOf, Lit, VecLit, Case}
use Rattle.chw_terms.specs.TermTree.{TermTree, var, global, made, lam, app, ty_lam, ty_app, letrec, con, prim, lit, vec_lit, case_of, Group, bind}
use Rattle.chw_terms.specs.TermView.{tree_of, applied, group_of}
use Rattle.chw_terms.proofs.Spines.{left_with_next}
use Rattle.chw_typing.specs.Groups.{joined}
use Rattle.chw_typing.proofs.GroupLists.{group_joined}
use Rattle.rewriting.specs.Shapes.{IsLet, NoLetIn}
use Rattle.rewriting.proofs.Spines.{args_are}
use Rattle.rule_parts.proofs.Heads.{bare}
use Rattle.flow_lets.specs.Parts.{IsParted}

-- a letrec has its parts
record LetParts (e : TermTree) : Type 0 where
  group : Group
  body : TermTree
  is : e ≡ letrec group body

let_parts : (e : TermTree) → IsLet e → LetParts e
let_parts (letrec g e) l = record { group = g; body = e; is = refl }
let_parts (var x) l = absurd l
let_parts (global d) l = absurd l
let_parts (made m) l = absurd l
let_parts (lam t e) l = absurd l
let_parts (app f a) l = absurd l
let_parts (ty_lam k e) l = absurd l
let_parts (ty_app f t) l = absurd l
let_parts (con c) l = absurd l
let_parts (prim p) l = absurd l
let_parts (lit s b) l = absurd l
let_parts (vec_lit t es) l = absurd l
let_parts (case_of e alts) l = absurd l

-- it has no arguments
pub not_applied : (h : Head) (args : List Arg) → 0 < length args → IsLet (applied (tree_of h) args) → ⊥
not_applied h args n l =
    let parts = let_parts (applied (tree_of h) args) l in
    let none = args_are (tree_of h) (letrec parts.group parts.body) args [] (bare h) (record { itself = refl; alone = refl }) parts.is in
    omega (arith, n, ap length none)

-- a head of another form is none
pub other_head : (h : Head) → ((bs e : _) → h ≡ LetRec bs e → ⊥) → IsLet (tree_of h) → ⊥
other_head (LetRec bs e) n l = n bs e refl
other_head (Var x) n l = l
other_head (Global d) n l = l
other_head (Made m) n l = l
other_head (Lam t e) n l = l
other_head (TyLam k e) n l = l
other_head (Con c) n l = l
other_head (PrimOf p) n l = l
other_head (Lit s b) n l = l
other_head (VecLit t es) n l = l
other_head (Case e alts) n l = l

-- one more right side is none
pub none_more : (bs : List Binding) (i : ℕ) (b : Binding) → i < length bs → b ≡ get_or bs i b → (IsLet b.body → ⊥) → NoLetIn (group_of (take i bs)) → NoLetIn (group_of (take (i + 1) bs))
none_more [] i b l q n m = absurd (omega (arith, l))
none_more (x ∷ bs) zero b l q n m = (subst (λ (b : Binding). IsLet b.body → ⊥) q n, tt)
none_more (x ∷ bs) (suc i) b l q n m =
    let next : suc (i + 1) ≡ suc i + 1 = omega arith in
    subst (λ k. NoLetIn (group_of (take k (x ∷ bs)))) next (m.0, none_more bs i b (omega (arith, l)) q n m.1)

-- the group around the first that is one
pub parted_at : (bs : List Binding) (i : ℕ) (b : Binding) (cs : Group) (x : TermTree) → i < length bs → b ≡ get_or bs i b → b.body ≡ letrec cs x → NoLetIn (group_of (take i bs)) → IsParted (group_of bs) (group_of (take i bs)) b.ty cs x (group_of (take (length bs - (i + 1)) (drop (i + 1) bs)))
parted_at bs i b cs x l q body n =
    let count = length-drop (i + 1) bs in
    let back : drop (i + 1) bs ≡ take (length bs - (i + 1)) (drop (i + 1) bs) = sym (take_all (length bs - (i + 1)) (drop (i + 1) bs) (omega (arith, count))) in
    record {
      whole =
          ap group_of (sym (take-append-drop i bs)) ∙ group_joined (take i bs) (drop i bs)
          ∙ ap (λ ys. joined (group_of (take i bs)) (group_of ys)) (left_with_next bs i b l q)
          ∙ (λ j. joined (group_of (take i bs)) (bind b.ty (body j) (group_of (back j))));
      first = n;
    }
