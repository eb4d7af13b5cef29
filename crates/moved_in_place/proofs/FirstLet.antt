-- Terms that are letrecs, and the first right side that is one.
use Rattle.std.proofs.Common.{◌≡◌, ◌<◌, ◌+◌, ℕ, zero, suc, refl, subst, List, [], ◌∷◌, length, take, get_or, arith}
use Rattle.chw_terms.specs.declared.term.Arg.{Arg}
use Rattle.chw_terms.specs.declared.term.Arg.TheVariants.{OfTerm, OfType}
use Rattle.chw_terms.specs.declared.term.Binding.{Binding}
use Rattle.chw_terms.specs.declared.term.Head.{Head}
use Rattle.chw_terms.specs.declared.term.Head.TheVariants.{Var, Global, Made, Lam, TyLam, LetRec, Con, PrimOf, Lit, VecLit, Case}
use Rattle.chw_terms.specs.TermTree.{TermTree, app, ty_app, letrec, Group}
use Rattle.chw_terms.specs.TermView.{tree_of, applied, group_of}
use Rattle.rewriting.specs.Shapes.{IsLet, NoLetIn}

-- an application is none
no_let : (args : List Arg) (f : TermTree) → (IsLet f → ⊥) → IsLet (applied f args) → ⊥
no_let [] f n l = n l
no_let (OfTerm a ∷ args) f n l = no_let args (app f a) (λ k. k) l
no_let (OfType t ∷ args) f n l = no_let args (ty_app f t) (λ k. k) l

pub not_applied : (h : Head) (args : List Arg) → 0 < length args → IsLet (applied (tree_of h) args) → ⊥
not_applied h [] n l = omega (arith, n)
not_applied h (OfTerm a ∷ args) n l = no_let args (app (tree_of h) a) (λ k. k) l
not_applied h (OfType t ∷ args) n l = no_let args (ty_app (tree_of h) t) (λ k. k) l

-- a head of another form is none
pub other_head : (h : Head) → ((bs e : _) → h ≡ LetRec bs e → ⊥) → IsLet (tree_of h) → ⊥
other_head (LetRec bs e) n l = n bs e refl
other_head (Var x) n l = l
other_head (Global d) n l = l
other_head (Made m) n l = l
other_head (Lam t e) n l = l
other_head (TyLam k e) n l = l
other_head (Con c) n l = l
other_head (PrimOf p) n l = l
other_head (Lit s b) n l = l
other_head (VecLit t es) n l = l
other_head (Case e alts) n l = l

pub not_let : (h : Head) (args : List Arg) → ((bs e : _) → h ≡ LetRec bs e → ⊥) → IsLet (applied (tree_of h) args) → ⊥
not_let h args n l = no_let args (tree_of h) (other_head h n) l

-- a letrec that is one whole term has no arguments
pub let_alone : (g : Group) (e : TermTree) (args : List Arg) → IsLet (applied (letrec g e) args) → applied (letrec g e) args ≡ letrec g e
let_alone g e [] l = refl
let_alone g e (OfTerm a ∷ args) l = absurd (no_let args (app (letrec g e) a) (λ k. k) l)
let_alone g e (OfType t ∷ args) l = absurd (no_let args (ty_app (letrec g e) t) (λ k. k) l)

pub let_bare : (g : Group) (e : TermTree) (args : List Arg) → length args ≡ 0 → IsLet (applied (letrec g e) args)
let_bare g e [] n = tt
let_bare g e (a ∷ args) n = absurd (omega (arith, n))

-- one more right side is none
pub none_more : (bs : List Binding) (i : ℕ) (b : Binding) → i < length bs → b ≡ get_or bs i b → (IsLet b.body → ⊥) → NoLetIn (group_of (take i bs)) → NoLetIn (group_of (take (i + 1) bs))
none_more [] i b l q n m = absurd (omega (arith, l))
none_more (x ∷ bs) zero b l q n m = (subst (λ (b : Binding). IsLet b.body → ⊥) q n, tt)
none_more (x ∷ bs) (suc i) b l q n m =
    let next : suc (i + 1) ≡ suc i + 1 = omega arith in
    subst (λ k. NoLetIn (group_of (take k (x ∷ bs)))) next (m.0, none_more bs i b (omega (arith, l)) q n m.1)
