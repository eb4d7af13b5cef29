-- Heads of one form.
use Rattle.std.proofs.Common.{◌≡◌, ℕ, refl, Bool, List}
use Rattle.chw_types.specs.declared.kind.Scalar.{Scalar}
use Rattle.chw_terms.specs.declared.term.Head.{Head}
use Rattle.chw_terms.specs.declared.term.Head.TheVariants.{Var, Global, Made, Lam, TyLam, LetRec, Con, PrimOf, Lit, VecLit, Case}
use Rattle.chw_terms.specs.TermTree.{TermTree, var, con, lit, letrec, case_of, Group, Alts}
use Rattle.chw_terms.specs.TermView.{tree_of}

pub no_letrec : (h : Head) → ((bs e : _) → h ≡ LetRec bs e → ⊥) → (g : Group) (b : TermTree) → tree_of h ≡ letrec g b → ⊥
no_letrec (LetRec bs e) other g b q = other bs e refl
no_letrec (Var x) other g b q = absurd cc
no_letrec (Global d) other g b q = absurd cc
no_letrec (Made m) other g b q = absurd cc
no_letrec (Lam t e) other g b q = absurd cc
no_letrec (TyLam k e) other g b q = absurd cc
no_letrec (Con c) other g b q = absurd cc
no_letrec (PrimOf p) other g b q = absurd cc
no_letrec (Lit s w) other g b q = absurd cc
no_letrec (VecLit t es) other g b q = absurd cc
no_letrec (Case s alts) other g b q = absurd cc

pub no_case : (h : Head) → ((s alts : _) → h ≡ Case s alts → ⊥) → (on : TermTree) (alts : Alts) → tree_of h ≡ case_of on alts → ⊥
no_case (Case s alts) other on those q = other s alts refl
no_case (Var x) other on those q = absurd cc
no_case (Global d) other on those q = absurd cc
no_case (Made m) other on those q = absurd cc
no_case (Lam t e) other on those q = absurd cc
no_case (TyLam k e) other on those q = absurd cc
no_case (LetRec bs e) other on those q = absurd cc
no_case (Con c) other on those q = absurd cc
no_case (PrimOf p) other on those q = absurd cc
no_case (Lit s w) other on those q = absurd cc
no_case (VecLit t es) other on those q = absurd cc

pub no_variable : (h : Head) → ((x : _) → h ≡ Var x → ⊥) → (x : ℕ) → tree_of h ≡ var x → ⊥
no_variable (Var x) other y q = other x refl
no_variable (Global d) other y q = absurd cc
no_variable (Made m) other y q = absurd cc
no_variable (Lam t e) other y q = absurd cc
no_variable (TyLam k e) other y q = absurd cc
no_variable (LetRec bs e) other y q = absurd cc
no_variable (Con c) other y q = absurd cc
no_variable (PrimOf p) other y q = absurd cc
no_variable (Lit s w) other y q = absurd cc
no_variable (VecLit t es) other y q = absurd cc
no_variable (Case s alts) other y q = absurd cc

pub no_con : (h : Head) → ((c : _) → h ≡ Con c → ⊥) → (c : ℕ) → tree_of h ≡ con c → ⊥
no_con (Con c) other d q = other c refl
no_con (Var x) other d q = absurd cc
no_con (Global g) other d q = absurd cc
no_con (Made m) other d q = absurd cc
no_con (Lam t e) other d q = absurd cc
no_con (TyLam k e) other d q = absurd cc
no_con (LetRec bs e) other d q = absurd cc
no_con (PrimOf p) other d q = absurd cc
no_con (Lit s w) other d q = absurd cc
no_con (VecLit t es) other d q = absurd cc
no_con (Case s alts) other d q = absurd cc

pub no_lit : (h : Head) → ((s w : _) → h ≡ Lit s w → ⊥) → (r : Scalar) (bits : List Bool) → tree_of h ≡ lit r bits → ⊥
no_lit (Lit s w) other r bits q = other s w refl
no_lit (Var x) other r bits q = absurd cc
no_lit (Global g) other r bits q = absurd cc
no_lit (Made m) other r bits q = absurd cc
no_lit (Lam t e) other r bits q = absurd cc
no_lit (TyLam k e) other r bits q = absurd cc
no_lit (LetRec bs e) other r bits q = absurd cc
no_lit (Con c) other r bits q = absurd cc
no_lit (PrimOf p) other r bits q = absurd cc
no_lit (VecLit t es) other r bits q = absurd cc
no_lit (Case s alts) other r bits q = absurd cc
