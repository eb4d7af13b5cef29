-- The proper wires to which copies lead from equal wires are one, or known, or of cells of one kind that read equal wires.
use Rattle.std.proofs.Common.{◌≡◌, ℕ, suc, ◌<◌, ◌==◌, inl, inr, Bool, true, false, List, [], ◌∷◌, length, Some, slice_get, get_or, refl, sym, ap, subst, ◌∙◌, arith, if◌then◌else◌}
use Rattle.std.specs.Prelude.{option_and_then}
use Rattle.std.proofs.lemmas.Option.{slice_get-get_or, slice_get_within}
use Rattle.chw_base.specs.declared.index.WireId.{WireId}
use Rattle.chw_bits.specs.Bits.{number_of}
use Rattle.netlist.specs.Feeds.{target}
use Rattle.netlist.specs.NetValue.{HasCell}
use Rattle.netlist.specs.Orders.{OrdersCells}
use Rattle.netlist.specs.Sound.{Sound}
use Rattle.netlist.specs.Wires.{read_by}
use Rattle.netlist.specs.declared.net.Cell.{Cell}
use Rattle.netlist.specs.declared.net.Cell.TheVariants.{Copy, Join, Cut, Mux}
use Rattle.netlist.specs.declared.net.Flat.{Flat}
use Rattle.netlist.proofs.Driven.{target_is_wire}
use Rattle.share_laws.specs.Same.{AllSame, Copies, IsKnown, Same, bare}
use Rattle.share_laws.specs.Same.AllSame.{same_and, same_none}
use Rattle.share_laws.specs.Same.Copies.{chosen, copy, either, single, whole}
use Rattle.share_laws.specs.Same.IsKnown.{carried}
use Rattle.share_laws.specs.Same.Same.{chained, copied, equal_bits, equal_cells, itself, turned}
use Rattle.share_laws.proofs.Alike.{Alike, alike}
use Rattle.share_laws.proofs.Alike.Alike.{bins, consts, copies, cuts, joins, muxes, rams, regs, uns}
use Rattle.share_laws.proofs.Chosen.{ChoosesOf, Decided, KnownOnce}
use Rattle.share_laws.proofs.Leading.{Leads, LeadsBy, leads_by, leads_once, leads_same, proper_copies, some_led}
use Rattle.share_laws.proofs.Leading.LeadsBy.{at_rest, onward}
use Rattle.share_laws.proofs.OneShared.{one_driver}
use Rattle.share_laws.proofs.Widths.{known_width, same_width}

-- two proper wires agree
pub data Agree (flat : Flat) (p q : ℕ) : Type 0 where
  both_known : (bits : List Bool) → IsKnown flat p bits → IsKnown flat q bits → Agree flat p q
  one_wire : p ≡ q → Agree flat p q
  like_cells : (c d : Cell) → HasCell flat c → HasCell flat d → target c ≡ Some p → target d ≡ Some q → bare c ≡ bare d
      → AllSame flat (read_by c) (read_by d) → Agree flat p q

all_turned : (flat : Flat) (vs ws : List WireId) → AllSame flat vs ws → AllSame flat ws vs
all_turned flat _ _ same_none = same_none
all_turned flat _ _ (same_and v w vs ws s all) = same_and w v ws vs (turned v.number w.number s) (all_turned flat vs ws all)

heads : (flat : Flat) (v w : WireId) (vs ws : List WireId) → AllSame flat (v ∷ vs) (w ∷ ws) → Same flat v.number w.number × AllSame flat vs ws
heads flat _ _ _ _ (same_and v w vs ws s all) = (s, all)

all_chained : (flat : Flat) (us vs ws : List WireId) → AllSame flat us vs → AllSame flat vs ws → AllSame flat us ws
all_chained flat _ _ ws same_none y = y
all_chained flat _ _ ws (same_and u v us vs s all) y = by_list ws y (λ ws y. all_chained flat us vs ws all y)
  where
    by_list : (ws : List WireId) → AllSame flat (v ∷ vs) ws → ((ws : List WireId) → AllSame flat vs ws → AllSame flat us ws) → AllSame flat (u ∷ us) ws
    by_list [] y rest = elim y [ ]
    by_list (w ∷ ws) y rest =
        let both = heads flat v w vs ws y in
        same_and u w us ws (chained u.number v.number w.number s both.0) (rest ws both.1)

lengths : (flat : Flat) (vs ws : List WireId) → AllSame flat vs ws → length vs ≡ length ws
lengths flat _ _ same_none = refl
lengths flat _ _ (same_and v w vs ws s all) = ap suc (lengths flat vs ws all)

agree_turned : (flat : Flat) (p q : ℕ) → Agree flat p q → Agree flat q p
agree_turned flat p q (both_known bits k l) = both_known bits l k
agree_turned flat p q (one_wire e) = one_wire (sym e)
agree_turned flat p q (like_cells c d has there t u e all) = like_cells d c there has u t (sym e) (all_turned flat (read_by c) (read_by d) all)

module _ (flat : Flat) (sound : Sound flat) where
  -- equal wires exist
  pub first_exists : (v w : ℕ) → Same flat v w → v < length flat.widths
  first_exists _ _ (itself w l) = l
  first_exists _ _ (turned v w s) =
      let there = slice_get-get_or flat.widths v 0 (first_exists v w s) in
      slice_get_within flat.widths w (get_or flat.widths v 0) (sym (same_width flat sound v w s) ∙ there)
  first_exists _ _ (chained u v w s t) = first_exists u v s
  first_exists _ _ (copied cell w a has t c) = target_is_wire flat sound has.0 w (ap (λ o. option_and_then target o) has.1 ∙ t)
  first_exists _ _ (equal_cells c d v w has there t u e all) =
      target_is_wire flat sound has.0 v (ap (λ o. option_and_then target o) has.1 ∙ t)
  first_exists _ _ (equal_bits v w bits k l) = slice_get_within flat.widths v (length bits) (known_width flat sound v bits k)

  module _ (once : KnownOnce flat) where
    agree_chained : (p q r : ℕ) → Agree flat p q → Agree flat q r → Agree flat p r
    agree_chained p q r (both_known bits k l) (both_known others m n) =
        let is : others ≡ bits = once q others bits m l in both_known bits k (subst (λ x. IsKnown flat r x) is n)
    agree_chained p q r (both_known bits k l) (one_wire f) = both_known bits k (subst (λ n. IsKnown flat n bits) f l)
    agree_chained p q r (both_known bits k l) (like_cells c d has there t u e all) =
        both_known bits k (carried q r bits (equal_cells c d q r has there t u e all) l)
    agree_chained p q r (one_wire e) y = subst (λ n. Agree flat n r) (sym e) y
    agree_chained p q r (like_cells c d has there t u e all) (both_known bits k l) =
        both_known bits (carried q p bits (turned p q (equal_cells c d p q has there t u e all)) k) l
    agree_chained p q r (like_cells c d has there t u e all) (one_wire f) =
        subst (λ n. Agree flat p n) f (like_cells c d has there t u e all)
    agree_chained p q r (like_cells c d has there t u e all) (like_cells b a has' there' t' u' e' all') =
        let is : d ≡ b = one_driver flat d b q sound there has' u t' in
        like_cells c a has there' t u' (e ∙ ap bare is ∙ e')
        (all_chained flat (read_by c) (read_by b) (read_by a) (subst (λ x. AllSame flat (read_by c) (read_by x)) is all) all')

    -- where two cells are alike and read equal wires, the first copies if the second does
    copies_too : (c d : Cell) → Alike c d → AllSame flat (read_by c) (read_by d) → (b : ℕ) → ChoosesOf flat d b → (a : ℕ) × Copies flat c a
    copies_too _ _ (copies v w a b) all n ch = (a.number, copy v a)
    copies_too _ _ (cuts v w a b high low) all n ch =
        let s = (heads flat a b [] [] all).0 in
        let wide : slice_get flat.widths a.number ≡ Some (suc high) = same_width flat sound a.number b.number s ∙ ch.1 in
        (a.number, subst (λ l. Copies flat (Cut v a high l) a.number) (sym ch.0) (whole v a high wide))
    copies_too _ _ (joins v w parts others) all n ch = by_parts parts others all ch
      where
        by_parts : (parts others : List WireId) → AllSame flat parts others → ChoosesOf flat (Join w others) n → (a : ℕ) × Copies flat (Join v parts) a
        by_parts parts [] all ch = absurd ch
        by_parts [] (y ∷ []) all ch = absurd (let same = lengths flat [] (y ∷ []) all in omega (arith, same))
        by_parts (x ∷ []) (y ∷ []) all ch = (x.number, single v x)
        by_parts (x ∷ z ∷ more) (y ∷ []) all ch = absurd (let same = lengths flat (x ∷ z ∷ more) (y ∷ []) all in omega (arith, same))
        by_parts parts (y ∷ z ∷ more) all ch = absurd ch
    copies_too _ _ (muxes v w c a b d x y) all n (inl ch) =
        let both = heads flat c d (a ∷ b ∷ []) (x ∷ y ∷ []) all in (
          (if number_of ch.0 == 1 then a.number else b.number),
          chosen v c a b ch.0 (carried d.number c.number ch.0 (turned c.number d.number both.0) ch.1),
        )
    copies_too _ _ (muxes v w c a b d x y) all n (inr ch) =
        let both = heads flat c d (a ∷ b ∷ []) (x ∷ y ∷ []) all in
        let first = heads flat a x (b ∷ []) (y ∷ []) both.1 in
        let second = heads flat b y [] [] first.1 in (
          a.number,
          either v c a b (chained a.number x.number b.number first.0
              (chained x.number y.number b.number ch.1 (turned b.number y.number second.0))),
        )
    copies_too _ _ (consts v w bits) all n ch = absurd ch
    copies_too _ _ (uns v w a b op) all n ch = absurd ch
    copies_too _ _ (bins v w a b c d op) all n ch = absurd ch
    copies_too _ _ (regs v w a b domain initial) all n ch = absurd ch
    copies_too _ _ (rams v w domain words inputs others) all n ch = absurd ch

    -- the ends of all that two wires lead to agree
    abbrev EndsAgree : ℕ → ℕ → Type 0
    EndsAgree v w = (p q : ℕ) → Leads flat v p → Leads flat w q → Agree flat p q

    abbrev AllEndsAgree : List WireId → List WireId → Type 0
    AllEndsAgree [] [] = Unit {0}
    AllEndsAgree (v ∷ vs) (w ∷ ws) = EndsAgree v.number w.number × AllEndsAgree vs ws
    AllEndsAgree _ _ = ⊥

    ends_at : (v w a b p q : ℕ) → a ≡ v → b ≡ w → EndsAgree v w → Leads flat a p → Leads flat b q → Agree flat p q
    ends_at v w a b p q e f ends l m = ends p q (subst (λ n. Leads flat n p) e l) (subst (λ n. Leads flat n q) f m)

    choices_by : (a b x y m n p q : ℕ) (t : Bool) → m ≡ (if t then a else b) → n ≡ (if t then x else y) → EndsAgree a x → EndsAgree b y
        → Leads flat m p → Leads flat n q → Agree flat p q
    choices_by a b x y m n p q true e f first second l k = ends_at a x m n p q e f first l k
    choices_by a b x y m n p q false e f first second l k = ends_at b y m n p q e f second l k

    -- where two cells that are alike copy, they copy at one place
    choices_agree : (c d : Cell) → Alike c d → AllSame flat (read_by c) (read_by d) → AllEndsAgree (read_by c) (read_by d)
        → (m n p q : ℕ) → ChoosesOf flat c m → ChoosesOf flat d n → Leads flat m p → Leads flat n q → Agree flat p q
    choices_agree _ _ (copies v w a b) all ends m n p q ch hc l k = ends_at a.number b.number m n p q ch hc ends.0 l k
    choices_agree _ _ (cuts v w a b high low) all ends m n p q ch hc l k = ends_at a.number b.number m n p q ch.2 hc.2 ends.0 l k
    choices_agree _ _ (joins v w parts others) all ends m n p q ch hc l k = by_parts parts others ends ch hc
      where
        by_parts : (parts others : List WireId) → AllEndsAgree parts others → ChoosesOf flat (Join v parts) m → ChoosesOf flat (Join w others) n → Agree flat p q
        by_parts [] others ends ch hc = absurd ch
        by_parts (x ∷ []) [] ends ch hc = absurd hc
        by_parts (x ∷ []) (y ∷ []) ends ch hc = ends_at x.number y.number m n p q ch hc ends.0 l k
        by_parts (x ∷ []) (y ∷ z ∷ more) ends ch hc = absurd hc
        by_parts (x ∷ z ∷ more) others ends ch hc = absurd ch
    choices_agree _ _ (muxes v w c a b d x y) all ends m n p q (inl ch) (inl hc) l k =
        let both = heads flat c d (a ∷ b ∷ []) (x ∷ y ∷ []) all in
        let same : hc.0 ≡ ch.0 = once d.number hc.0 ch.0 hc.1 (carried c.number d.number ch.0 both.0 ch.1) in
        let f : n ≡ (if number_of ch.0 == 1 then x.number else y.number) = hc.2 ∙ ap (λ on. if number_of on == 1 then x.number else y.number) same in
        choices_by a.number b.number x.number y.number m n p q (number_of ch.0 == 1) ch.2 f ends.1.0 ends.1.1.0 l k
    choices_agree _ _ (muxes v w c a b d x y) all ends m n p q (inl ch) (inr hc) l k =
        absurd (hc.0 ch.0 (carried c.number d.number ch.0 (heads flat c d (a ∷ b ∷ []) (x ∷ y ∷ []) all).0 ch.1))
    choices_agree _ _ (muxes v w c a b d x y) all ends m n p q (inr ch) (inl hc) l k =
        absurd (ch.0 hc.0 (carried d.number c.number hc.0 (turned c.number d.number (heads flat c d (a ∷ b ∷ []) (x ∷ y ∷ []) all).0) hc.1))
    choices_agree _ _ (muxes v w c a b d x y) all ends m n p q (inr ch) (inr hc) l k = ends_at a.number x.number m n p q ch.2 hc.2 ends.1.0 l k
    choices_agree _ _ (consts v w bits) all ends m n p q ch hc l k = absurd ch
    choices_agree _ _ (uns v w a b op) all ends m n p q ch hc l k = absurd ch
    choices_agree _ _ (bins v w a b c d op) all ends m n p q ch hc l k = absurd ch
    choices_agree _ _ (regs v w a b domain initial) all ends m n p q ch hc l k = absurd ch
    choices_agree _ _ (rams v w domain words inputs others) all ends m n p q ch hc l k = absurd ch

    cells_agree : (c d : Cell) (v w : ℕ) → HasCell flat c → HasCell flat d → target c ≡ Some v → target d ≡ Some w → bare c ≡ bare d
        → AllSame flat (read_by c) (read_by d) → AllEndsAgree (read_by c) (read_by d)
        → (p q : ℕ) → LeadsBy flat sound c v p → LeadsBy flat sound d w q → Agree flat p q
    cells_agree c d v w has there t u e all ends p q (at_rest x same) (at_rest y alike_) =
        subst (λ n. Agree flat p n) alike_ (subst (λ n. Agree flat n w) same (like_cells c d has there t u e all))
    cells_agree c d v w has there t u e all ends p q (at_rest x same) (onward b hc m) =
        let found = copies_too c d (alike c d v e t) all b hc in absurd (proper_copies flat sound v found.0 c x has t found.1)
    cells_agree c d v w has there t u e all ends p q (onward a ch l) (at_rest y same) =
        let found = copies_too d c (alike d c w (sym e) u) (all_turned flat (read_by c) (read_by d) all) a ch in
        absurd (proper_copies flat sound w found.0 d y there u found.1)
    cells_agree c d v w has there t u e all ends p q (onward a ch l) (onward b hc m) =
        choices_agree c d (alike c d v e t) all ends a b p q ch hc l m

    module _ (places : List ℕ) (order : OrdersCells flat.cells places) (decided : Decided flat) where
      -- what a cell that copies chooses leads as what it copies
      onward_agrees : (p q a b : ℕ) → a ≡ b → Leads flat a p → Leads flat b q → Agree flat p q
      onward_agrees p q a b e l m = one_wire (leads_once flat sound once b p q (subst (λ n. Leads flat n p) e l) m)

      copy_led : (cell : Cell) (a w p q : ℕ) → Copies flat cell a → HasCell flat cell → target cell ≡ Some w → LeadsBy flat sound cell w p → Leads flat a q
          → ((b : ℕ) → ChoosesOf flat cell b → Leads flat b p → Agree flat p q) → Agree flat p q
      copy_led cell a w p q c has t (at_rest proper e) m go = absurd (proper_copies flat sound w a cell proper has t c)
      copy_led cell a w p q c has t (onward b ch l) m go = go b ch l

      by_either : (a b n p q : ℕ) (t : Bool) → n ≡ (if t then a else b) → Leads flat n p → Leads flat a q → EndsAgree a b → Agree flat p q
      by_either a b n p q true e l m ends = onward_agrees p q n a e l m
      by_either a b n p q false e l m ends = agree_turned flat q p (ends q p m (subst (λ x. Leads flat x p) e l))

      either_agrees : (v c a b : WireId) (n p q : ℕ) → ChoosesOf flat (Mux v c a b) n → Leads flat n p → Leads flat a.number q
          → EndsAgree a.number b.number → Agree flat p q
      either_agrees v c a b n p q (inl ch) l m ends = by_either a.number b.number n p q (number_of ch.0 == 1) ch.2 l m ends
      either_agrees v c a b n p q (inr ch) l m ends = onward_agrees p q n a.number ch.2 l m

      chosen_agrees : (v c a b : WireId) (on : List Bool) (n p q : ℕ) → IsKnown flat c.number on → ChoosesOf flat (Mux v c a b) n → Leads flat n p
          → Leads flat (if number_of on == 1 then a.number else b.number) q → Agree flat p q
      chosen_agrees v c a b on n p q k (inl ch) l m =
          let same : ch.0 ≡ on = once c.number ch.0 on ch.1 k in
          let e : n ≡ (if number_of on == 1 then a.number else b.number) = ch.2 ∙ ap (λ x. if number_of x == 1 then a.number else b.number) same in
          onward_agrees p q n (if number_of on == 1 then a.number else b.number) e l m
      chosen_agrees v c a b on n p q k (inr ch) l m = absurd (ch.0 on k)

      mutual
        pub agree : (v w : ℕ) → Same flat v w → (p q : ℕ) → Leads flat v p → Leads flat w q → Agree flat p q
        agree _ _ (itself w l) p q x y = one_wire (leads_once flat sound once w p q x y)
        agree _ _ (turned v w s) p q x y = agree_turned flat q p (agree v w s q p y x)
        agree _ _ (chained u v w s t) p q x y =
            let middle = some_led flat sound places order decided v (first_exists v w t) in
            agree_chained p middle.0 q (agree u v s p middle.0 x middle.1) (agree v w t middle.0 q middle.1 y)
        agree _ _ (copied cell w a has t c) p q x y = copy_agrees cell a c w has t p q (leads_by flat sound cell w p has t x) y
        agree _ _ (equal_cells c d v w has there t u e all) p q x y =
            cells_agree c d v w has there t u e all (all_agree (read_by c) (read_by d) all) p q (leads_by flat sound c v p has t x) (leads_by flat sound d w q there u y)
        agree _ _ (equal_bits v w bits k l) p q x y =
            both_known bits (carried v p bits (leads_same flat sound v p x) k) (carried w q bits (leads_same flat sound w q y) l)

        all_agree : (vs ws : List WireId) → AllSame flat vs ws → AllEndsAgree vs ws
        all_agree _ _ same_none = tt
        all_agree _ _ (same_and v w vs ws s all) = (λ p q x y. agree v.number w.number s p q x y, all_agree vs ws all)

        copy_agrees : (cell : Cell) (a : ℕ) → Copies flat cell a → (w : ℕ) → HasCell flat cell → target cell ≡ Some w
            → (p q : ℕ) → LeadsBy flat sound cell w p → Leads flat a q → Agree flat p q
        copy_agrees _ _ (copy v a) w has t p q x y =
            copy_led (Copy v a) a.number w p q (copy v a) has t x y (λ b ch l. onward_agrees p q b a.number ch l y)
        copy_agrees _ _ (whole v a high e) w has t p q x y =
            copy_led (Cut v a high 0) a.number w p q (whole v a high e) has t x y (λ b ch l. onward_agrees p q b a.number ch.2 l y)
        copy_agrees _ _ (single v a) w has t p q x y =
            copy_led (Join v (a ∷ [])) a.number w p q (single v a) has t x y (λ b ch l. onward_agrees p q b a.number ch l y)
        copy_agrees _ _ (either v c a b s) w has t p q x y =
            copy_led (Mux v c a b) a.number w p q (either v c a b s) has t x y
            (λ n ch l. either_agrees v c a b n p q ch l y (λ p q x y. agree a.number b.number s p q x y))
        copy_agrees _ _ (chosen v c a b on k) w has t p q x y =
            copy_led (Mux v c a b) (if number_of on == 1 then a.number else b.number) w p q (chosen v c a b on k) has t x y
            (λ n ch l. chosen_agrees v c a b on n p q k ch l y)
