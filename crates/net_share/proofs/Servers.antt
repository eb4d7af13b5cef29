-- The table of the least proper wires by class, from the last wire down, and the wires that serve.
use Rattle.std.proofs.Common.{◌≡◌, ℕ, ◌+◌, ◌<◌, ◌≤◌, inl, inr, List, ◌∷◌, ◌++◌, [], length, set, Some, slice_get, sym, ap, subst, ◌∙◌, arith}
use Rattle.std.specs.Prelude.{slice_index}
use Rattle.std.proofs.lemmas.Bool.{cases_eq}
use Rattle.std.proofs.lemmas.List.{get_or-set_other, get_or-set_same}
use Rattle.std.proofs.lemmas.Option.{same_Some}
use Rattle.netlist.specs.Orders.{OrdersCells}
use Rattle.netlist.specs.Sound.{Sound}
use Rattle.netlist.specs.declared.net.Flat.{Flat}
use Rattle.share_laws.specs.Same.Same.{chained, turned}
use Rattle.share_laws.specs.Shares.{IsProper, Serves}
use Rattle.wire_classes.specs.Classes.{AreClasses}
use Rattle.wire_classes.specs.declared.classes.Classes.{Classes}
use Rattle.net_share.specs.Standing.{EachServes, IsLeastFrom, LeastsFrom}
use Rattle.net_share.proofs.Copies.{class_there}
use Rattle.net_share.proofs.Proper.{proper_within, some_proper}
use Rattle.net_share.proofs.Pushed.{each_pushed}

module _ (flat : Flat) (of : List ℕ) where
  -- before any wire there is nothing to tell
  pub least_none : (n : ℕ) (table : List ℕ) → Sound flat → n ≡ length flat.widths → LeastsFrom flat of n table
  least_none n table sound e v a l proper c = absurd (let within = proper_within flat sound v proper in omega (arith, l, e, within))

  -- a wire that is proper is not one that isn't
  beyond : (w v : ℕ) → w ≤ v → (v ≡ w → ⊥) → w + 1 ≤ v
  beyond w v l apart = elim (cases_eq v w) [
    | inl e ↦ absurd (apart e)
    | inr ne ↦ omega (arith, l, ne)
  ]

  lower : (w a p : ℕ) → IsLeastFrom flat of (w + 1) a p → ((IsProper flat w) → slice_get of w ≡ Some a → ⊥) → IsLeastFrom flat of w a p
  lower w a p least apart = record {
    proper = least.proper;
    of_class = least.of_class;
    above = omega (arith, least.above);
    least = λ v l proper c. least.least v (beyond w v l (λ e. apart (subst (λ x. IsProper flat x) e proper) (subst (λ x. slice_get of x ≡ Some a) e c))) proper c;
  }

  -- a wire that copies another is passed over
  pub least_passed : (w m : ℕ) (table : List ℕ) → m ≡ w + 1 → LeastsFrom flat of m table → (IsProper flat w → ⊥) → LeastsFrom flat of w table
  least_passed w m table e leasts copies v a l proper c =
      let from : LeastsFrom flat of (w + 1) table = subst (λ n. LeastsFrom flat of n table) e leasts in
      let behind = beyond w v l (λ s. copies (subst (λ x. IsProper flat x) s proper)) in
      lower w a (slice_index table a) (from v a behind proper c) (λ p s. copies p)

  -- a proper wire is the least of its class
  pub least_noted : (w m b : ℕ) (table : List ℕ) → m ≡ w + 1 → LeastsFrom flat of m table → IsProper flat w → slice_get of w ≡ Some b → b < length table
      → LeastsFrom flat of w (set table b w)
  least_noted w m b table e leasts proper c within v a l other d = elim (cases_eq a b) [
    | inl same ↦
        let at : slice_index (set table b w) a ≡ w = ap (λ x. slice_index (set table b w) x) same ∙ get_or-set_same table b w 0 within in
        let least : IsLeastFrom flat of w a w = record {
          proper = proper;
          of_class = c ∙ ap Some (sym same);
          above = omega arith;
          least = λ u k x y. k;
        } in
        subst (λ p. IsLeastFrom flat of w a p) (sym at) least
    | inr apart ↦
        let from : LeastsFrom flat of (w + 1) table = subst (λ n. LeastsFrom flat of n table) e leasts in
        let away : slice_get of w ≡ Some a → ⊥ = λ s. apart (same_Some a b (sym s ∙ c)) in
        let behind = beyond w v l (λ s. away (subst (λ x. slice_get of x ≡ Some a) s d)) in
        let at : slice_index (set table b w) a ≡ slice_index table a = get_or-set_other table b a w 0 apart in
        subst (λ p. IsLeastFrom flat of w a p) (sym at) (lower w a (slice_index table a) (from v a behind other d) (λ p s. away s))
  ]

-- the least proper wire of a wire's class serves it
pub serves_here : (flat : Flat) (c : Classes) (places : List ℕ) (table : List ℕ) (w : ℕ) → Sound flat → AreClasses flat c → OrdersCells flat.cells places
    → LeastsFrom flat c.of 0 table → w < length flat.widths → Serves flat (slice_index table (slice_index c.of w)) w
serves_here flat c places table w sound are order leasts l =
    let some = some_proper flat sound c are places order w l in
    let a = slice_index c.of w in
    let here : slice_get c.of w ≡ Some a = class_there flat c are w l in
    let inside = proper_within flat sound some.0 some.1 in
    let there = class_there flat c are some.0 inside in
    let one : slice_index c.of some.0 ≡ a = are.one some.0 w (slice_index c.of some.0) a some.2 there here in
    let found : slice_get c.of some.0 ≡ Some a = there ∙ ap Some one in
    let least : IsLeastFrom flat c.of 0 a (slice_index table a) = leasts some.0 a (omega arith) some.1 found in
    record {
      stands = record {
        proper = least.proper;
        least = λ v proper same.
            let far = class_there flat c are v (proper_within flat sound v proper) in
            let equal : slice_index c.of v ≡ a = are.one v (slice_index table a) (slice_index c.of v) a same far least.of_class in
            least.least v (omega arith) proper (far ∙ ap Some equal);
      };
      same = are.same (slice_index table a) w a least.of_class here;
    }

pub serves_more : (flat : Flat) (servers : List ℕ) (v n : ℕ) → n ≡ length servers → EachServes flat servers → Serves flat v n → EachServes flat (servers ++ v ∷ [])
serves_more flat servers v n long each here = each_pushed (λ w x. Serves flat x w) servers v n long each here

-- one wire stands for a wire
pub one_serves : (flat : Flat) (u v w : ℕ) → Serves flat u w → Serves flat v w → u ≡ v
one_serves flat u v w s t =
    let there = t.stands.least u s.stands.proper (chained u w v s.same (turned v w t.same)) in
    let back = s.stands.least v t.stands.proper (chained v w u t.same (turned u w s.same)) in
    omega (arith, there, back)
