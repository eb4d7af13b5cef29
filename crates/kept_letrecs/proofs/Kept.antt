-- A letrec stays at rest where a right side changes, and where one becomes a letrec that joins.
use Rattle.std.proofs.Common.{◌≡◌, ap, refl, subst, suc, ◌∷◌}
use Rattle.std.specs.List.{AllByRecursion}
use Rattle.chw_types.specs.TypeMoves.{Renaming, raised}
use Rattle.chw_types.specs.TypeTree.{TypeTree}
use Rattle.chw_terms.specs.TermMoves.{rename, rename_group, exchanged}
use Rattle.chw_terms.specs.TermTree.{TermTree, letrec, Group, no_bindings, bind, size_of}
use Rattle.chw_typing.specs.Groups.{joined}
use Rattle.chw_typing.specs.Scopes.{declared}
use Rattle.rewriting.specs.Named.{IsNamed}
use Rattle.rewriting.specs.Shapes.{IsLet, NoLetIn}
use Rattle.kept_letrecs.specs.Laws.{RestAfterSide, RestAfterJoin}
use Rattle.kept_letrecs.proofs.Joins.{reached_by_join}
use Rattle.kept_letrecs.proofs.Sides.{reached_by_side}

-- no letrec inside, where one right side changes
no_let_changed : (front : Group) (t : TypeTree) (x x' : TermTree) (back : Group) → NoLetIn (joined front (bind t x back)) → (IsLet x' → ⊥) → NoLetIn (joined front (bind t x' back))
no_let_changed no_bindings t x x' back h n = (n, h.1)
no_let_changed (bind u y g) t x x' back h n = (h.0, no_let_changed g t x x' back h.1 n)

-- in two groups, and in a renamed one
no_let_parts : (g h : Group) → NoLetIn (joined g h) → NoLetIn g × NoLetIn h
no_let_parts no_bindings h n = (tt, n)
no_let_parts (bind u y g) h n = let parts = no_let_parts g h n.1 in ((n.0, parts.0), parts.1)

no_let_joined : (g h : Group) → NoLetIn g → NoLetIn h → NoLetIn (joined g h)
no_let_joined no_bindings h n k = k
no_let_joined (bind u y g) h n k = (n.0, no_let_joined g h n.1 k)

let_before : (e : TermTree) (ρ : Renaming) → IsLet (rename e ρ) → IsLet e
unfolding rename
let_before (letrec g e) ρ l = tt
let_before _ ρ l = l

no_let_renamed : (g : Group) (ρ : Renaming) → NoLetIn g → NoLetIn (rename_group g ρ)
unfolding rename
no_let_renamed no_bindings ρ n = tt
no_let_renamed (bind u y g) ρ n = (λ l. n.0 (let_before y ρ l), no_let_renamed g ρ n.1)

-- the same of the declared types
same_declared : (front : Group) (t : TypeTree) (x x' : TermTree) (back : Group) → declared (joined front (bind t x back)) ≡ declared (joined front (bind t x' back))
same_declared no_bindings t x x' back = refl
same_declared (bind u y g) t x x' back = ap (λ ts. u ∷ ts) (same_declared g t x x' back)

module _ (P : TypeTree → Type 0) where
  abbrev Holds : Group → Type 0
  Holds g = AllByRecursion P (declared g)

  holds_parts : (g h : Group) → Holds (joined g h) → Holds g × Holds h
  holds_parts no_bindings h p = (tt, p)
  holds_parts (bind u y g) h p = let parts = holds_parts g h p.1 in ((p.0, parts.0), parts.1)

  holds_joined : (g h : Group) → Holds g → Holds h → Holds (joined g h)
  holds_joined no_bindings h p q = q
  holds_joined (bind u y g) h p q = (p.0, holds_joined g h p.1 q)

  holds_renamed : (g : Group) (ρ : Renaming) → Holds g → Holds (rename_group g ρ)
  unfolding rename
  holds_renamed no_bindings ρ p = tt
  holds_renamed (bind u y g) ρ p = (p.0, holds_renamed g ρ p.1)

pub rest_after_side : RestAfterSide
rest_after_side datas mode front t x x' back e h n keeps = record {
  sides = no_let_changed front t x x' back h.sides n;
  body = h.body;
  reached = reached_by_side front t x x' back e h.reached keeps;
  named = subst (AllByRecursion (IsNamed datas mode)) (same_declared front t x x' back) h.named;
}

pub rest_after_join : RestAfterJoin
rest_after_join datas mode front t y cs x back e h keeps inner =
    let m = size_of cs in
    let n = suc (size_of back) in
    let room = raised n m in
    let swap = exchanged m n in
    let outer = rename_group front room in
    let joins = rename_group cs swap in
    let behind = bind t (rename x swap) (rename_group back room) in
    let lets = no_let_parts front (bind t y back) h.sides in
    let types = holds_parts (IsNamed datas mode) front (bind t y back) h.named in
    record {
      sides = no_let_joined outer (joined joins behind) (no_let_renamed front room lets.0) (no_let_joined joins behind (no_let_renamed cs swap inner.sides) (λ l. inner.body (let_before x swap l), no_let_renamed back room lets.1.1));
      body = λ l. h.body (let_before e room l);
      reached = reached_by_join front t cs x back e (reached_by_side front t y (letrec cs x) back e h.reached keeps) inner.reached;
      named = holds_joined (IsNamed datas mode) outer (joined joins behind) (holds_renamed (IsNamed datas mode) front room types.0) (holds_joined (IsNamed datas mode) joins behind (holds_renamed (IsNamed datas mode) cs swap inner.named) (types.1.0, holds_renamed (IsNamed datas mode) back room types.1.1));
    }
