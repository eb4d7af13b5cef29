-- Wires of a shared net that are equal, or of which bits are known, are made of wires that are so in the first net.
use Rattle.std.proofs.Common.{◌≡◌, ℕ, suc, ◌-◌, ◌<◌, ◌≤◌, ◌==◌, ◌⊎◌, inl, inr, Bool, true, false, List, [], ◌∷◌, length, get_or, Some, slice_get, refl, sym, ap, subst, ◌∙◌, arith, if◌then◌else◌}
use Rattle.std.proofs.lemmas.Bool.{cases_lt}
use Rattle.std.proofs.lemmas.Option.{slice_get-get_or}
use Rattle.chw_base.specs.declared.index.WireId.{WireId}
use Rattle.chw_bits.specs.Bits.{number_of}
use Rattle.netlist.specs.Feeds.{target}
use Rattle.netlist.specs.NetValue.{HasCell}
use Rattle.netlist.specs.Operators.{operator}
use Rattle.netlist.specs.Sound.{Sound}
use Rattle.netlist.specs.Wires.{read_by}
use Rattle.netlist.specs.declared.net.Cell.{Cell}
use Rattle.netlist.specs.declared.net.Cell.TheVariants.{Const, Copy, Join, Cut, Mux}
use Rattle.netlist.specs.declared.net.Flat.{Flat}
use Rattle.share_laws.specs.Same.{AllKnown, AllSame, Copies, IsFolded, IsKnown, Same, bare, wire_0}
use Rattle.share_laws.specs.Same.AllKnown.{known_and, known_none}
use Rattle.share_laws.specs.Same.AllSame.{same_and, same_none}
use Rattle.share_laws.specs.Same.Copies.{chosen, copy, either, single, whole}
use Rattle.share_laws.specs.Same.IsKnown.{carried, constant, folded}
use Rattle.share_laws.specs.Same.Same.{chained, copied, equal_bits, equal_cells, itself, turned}
use Rattle.share_laws.specs.Shares.{AllBecome, Becomes, IsNumbered, IsSharedCell, Shares}
use Rattle.share_laws.specs.Shares.IsNumbered.{as_input, as_kept}
use Rattle.share_laws.specs.Shares.IsSharedCell.{as_constant, as_own}
use Rattle.share_laws.proofs.Agreeing.{first_exists}
use Rattle.share_laws.proofs.Alike.{Alike, alike}
use Rattle.share_laws.proofs.Alike.Alike.{consts, copies, muxes, rams, regs}
use Rattle.share_laws.proofs.Renamed.{become_width, cell_of, kept_within}
use Rattle.share_laws.proofs.Rising.{one_origin}
use Rattle.share_laws.proofs.Soundness.{count_wires, shared_sound}

-- of cells that are alike, where the second is folded, so is the first, and it gives the same
record FoldsSame (c d : Cell) : Type 0 where
  folds : IsFolded c
  gives : (values : List (List Bool)) → operator c values ≡ operator d values

folds_same : (c d : Cell) → Alike c d → IsFolded d → FoldsSame c d
folds_same _ _ (consts v w bits) f = absurd f
folds_same _ _ (copies v w a b) f = absurd f
folds_same _ _ (muxes v w c a b d x y) f = absurd f
folds_same _ _ (regs v w a b domain initial) f = absurd f
folds_same _ _ (rams v w domain words inputs others) f = absurd f
folds_same c d _ f = record { folds = tt; gives = λ values. refl }

-- the cell is no constant
abbrev pub IsNoConstant : Cell → Type 0
IsNoConstant (Const w bits) = ⊥
IsNoConstant _ = Unit {0}

module _ (flat shared : Flat) (sound : Sound flat) (s : Shares flat shared) where
  abbrev Numbered : ℕ → ℕ → Type 0
  Numbered v n = IsNumbered (length flat.ports.inputs) s.kept v n

  shared_is : Sound shared
  shared_is = shared_sound flat shared sound s

  -- each wire of the shared net is the new number of a wire
  pub has_origin : (n : ℕ) → n < length shared.widths → (v : ℕ) × Numbered v n
  has_origin n l = from (cases_lt n (length flat.ports.inputs))
    where
      from : (n < length flat.ports.inputs) ⊎ (length flat.ports.inputs ≤ n) → (v : ℕ) × Numbered v n
      from (inl m) = (n, as_input m refl)
      from (inr m) =
          let within : n - length flat.ports.inputs < length s.kept = omega (arith, l, m, count_wires flat shared sound s) in
          let there = slice_get-get_or s.kept (n - length flat.ports.inputs) 0 within in
          (get_or s.kept (n - length flat.ports.inputs) 0, as_kept (n - length flat.ports.inputs) there (omega (arith, m)))

  origin_within : (v n : ℕ) → Numbered v n → v < length flat.widths
  origin_within v n (as_input l e) = omega (arith, l, sound.all)
  origin_within v n (as_kept k at e) = kept_within flat sound shared s v (k, at)

  -- what holds of the wires that stand for two wires, or for one, holds of these
  same_becoming : (v w m n : ℕ) → Becomes flat s.kept v m → Becomes flat s.kept w n
      → ((x y : ℕ) → Numbered x m → Numbered y n → Same flat x y) → Same flat v w
  same_becoming v w m n b c rest =
      chained v b.by w (turned b.by v b.serves.same) (chained b.by c.by w (rest b.by c.by b.numbered c.numbered) c.serves.same)

  known_becoming : (w n : ℕ) (bits : List Bool) → Becomes flat s.kept w n → ((x : ℕ) → Numbered x n → IsKnown flat x bits) → IsKnown flat w bits
  known_becoming w n bits b rest = carried b.by w bits b.serves.same (rest b.by b.numbered)

  -- lists of wires
  none_same : (vs ws : List WireId) → AllBecome flat s.kept vs [] → AllBecome flat s.kept ws [] → AllSame flat vs ws
  none_same [] [] bs cs = same_none
  none_same [] (w ∷ ws) bs cs = absurd cs
  none_same (v ∷ vs) ws bs cs = absurd bs

  more_same : (m n : WireId) (ms ns vs ws : List WireId) → AllBecome flat s.kept vs (m ∷ ms) → AllBecome flat s.kept ws (n ∷ ns)
      → ((v w : ℕ) → Becomes flat s.kept v m.number → Becomes flat s.kept w n.number → Same flat v w)
      → ((vs ws : List WireId) → AllBecome flat s.kept vs ms → AllBecome flat s.kept ws ns → AllSame flat vs ws) → AllSame flat vs ws
  more_same m n ms ns [] ws bs cs one rest = absurd bs
  more_same m n ms ns (v ∷ vs) [] bs cs one rest = absurd cs
  more_same m n ms ns (v ∷ vs) (w ∷ ws) bs cs one rest =
      same_and v w vs ws (one v.number w.number bs.0 cs.0) (rest vs ws bs.1 cs.1)

  none_known : (ws : List WireId) → AllBecome flat s.kept ws [] → AllKnown flat ws []
  none_known [] bs = known_none
  none_known (w ∷ ws) bs = absurd bs

  more_known : (n : WireId) (ns ws : List WireId) (bits : List Bool) (values : List (List Bool)) → AllBecome flat s.kept ws (n ∷ ns)
      → ((w : ℕ) → Becomes flat s.kept w n.number → IsKnown flat w bits)
      → ((ws : List WireId) → AllBecome flat s.kept ws ns → AllKnown flat ws values) → AllKnown flat ws (bits ∷ values)
  more_known n ns [] bits values bs one rest = absurd bs
  more_known n ns (w ∷ ws) bits values bs one rest = known_and w ws bits values (one w.number bs.0) (rest ws bs.1)

  -- a constant of the shared net is made of a wire of which its bits are known
  own_constant : (own : Cell) (v : ℕ) (w : WireId) (bits : List Bool) → HasCell flat own → target own ≡ Some v → bare own ≡ bare (Const w bits)
      → IsKnown flat v bits
  own_constant (Const x others) v w bits has t e =
      let is : others ≡ bits = cc in
      let at : x.number ≡ v = cc in
      subst (λ n. IsKnown flat n bits) at (subst (λ b. IsKnown flat x.number b) is (constant x others has))
  own_constant _ v w bits has t e = absurd (cc)

  like_constant : (d : Cell) (v n : ℕ) (bits : List Bool) → IsSharedCell flat s.kept v n d → bare d ≡ Const wire_0 bits → IsKnown flat v bits
  like_constant d v n bits (as_constant others k g) e =
      let there : bare d ≡ Const wire_0 others = ap bare g in
      let is : others ≡ bits = cc in
      subst (λ b. IsKnown flat v b) is k
  like_constant d v n bits (as_own own unknown has t same u reads) e = own_constant own v wire_0 bits has t (same ∙ e)

  folded_back : (cell : Cell) (v n : ℕ) (values : List (List Bool)) → IsFolded cell → IsSharedCell flat s.kept v n cell
      → ((ws : List WireId) → AllBecome flat s.kept ws (read_by cell) → AllKnown flat ws values) → IsKnown flat v (operator cell values)
  folded_back cell v n values f (as_constant bits k e) reads = absurd (subst (λ c. IsFolded c) e f)
  folded_back cell v n values f (as_own own unknown has t same u become) reads =
      let gives = folds_same own cell (alike own cell v same t) f in
      subst (λ bits. IsKnown flat v bits) (gives.gives values) (folded own v values has gives.folds t (reads (read_by own) become))

  cells_back : (c d : Cell) (v w m n : ℕ) → IsSharedCell flat s.kept v m c → IsSharedCell flat s.kept w n d → bare c ≡ bare d
      → ((vs ws : List WireId) → AllBecome flat s.kept vs (read_by c) → AllBecome flat s.kept ws (read_by d) → AllSame flat vs ws) → Same flat v w
  cells_back c d v w m n (as_constant bits k e) there f reads =
      equal_bits v w bits k (like_constant d w n bits there (sym f ∙ ap bare e))
  cells_back c d v w m n (as_own own unknown has t same u become) (as_constant bits k e) f reads =
      equal_bits v w bits (own_constant own v wire_0 bits has t (same ∙ f ∙ ap bare e)) k
  cells_back c d v w m n (as_own own unknown has t same u become) (as_own other unknown' has' t' same' u' become') f reads =
      equal_cells own other v w has has' t t' (same ∙ f ∙ sym same') (reads (read_by own) (read_by other) become become')

  -- the own cell of a wire copies what becomes this wire
  pub record CopiedOwn (v a : ℕ) : Type 0 where
    pub own : Cell
    pub from : ℕ
    pub has : HasCell flat own
    pub drives : target own ≡ Some v
    pub copying : Copies flat own from
    pub becomes : Becomes flat s.kept from a

  -- the own cell of a wire, of one kind with the one that it has after sharing
  record OwnCell (v : ℕ) (cell : Cell) : Type 0 where
    own : Cell
    has : HasCell flat own
    drives : target own ≡ Some v
    like : bare own ≡ bare cell
    reads : AllBecome flat s.kept (read_by own) (read_by cell)

  own_cell : (cell : Cell) (v n : ℕ) → IsNoConstant cell → IsSharedCell flat s.kept v n cell → OwnCell v cell
  own_cell cell v n other (as_constant bits k e) = absurd (subst (λ c. IsNoConstant c) e other)
  own_cell cell v n other (as_own own unknown has t same u reads) = record { own = own; has = has; drives = t; like = same; reads = reads }

  by_copy : (own : Cell) (v : ℕ) (w a : WireId) → HasCell flat own → target own ≡ Some v → bare own ≡ bare (Copy w a)
      → AllBecome flat s.kept (read_by own) (a ∷ []) → CopiedOwn v a.number
  by_copy (Copy x b) v w a has t e all =
      record { own = Copy x b; from = b.number; has = has; drives = t; copying = copy x b; becomes = all.0 }
  by_copy _ v w a has t e all = absurd (cc)

  by_cut : (own : Cell) (v : ℕ) (w a : WireId) (high : ℕ) → HasCell flat own → target own ≡ Some v → bare own ≡ bare (Cut w a high 0)
      → slice_get shared.widths a.number ≡ Some (suc high) → AllBecome flat s.kept (read_by own) (a ∷ []) → CopiedOwn v a.number
  by_cut (Cut x b top bottom) v w a high has t e wide all =
      let first : top ≡ high = cc in
      let second : bottom ≡ 0 = cc in
      let broad : slice_get flat.widths b.number ≡ Some (suc top) =
      become_width flat sound shared s b.number a.number all.0 ∙ wide ∙ ap (λ n. Some (suc n)) (sym first) in
      record {
        own = Cut x b top bottom;
        from = b.number;
        has = has;
        drives = t;
        copying = subst (λ n. Copies flat (Cut x b top n) b.number) (sym second) (whole x b top broad);
        becomes = all.0;
      }
  by_cut _ v w a high has t e wide all = absurd (cc)

  by_join : (own : Cell) (v : ℕ) (w a : WireId) → HasCell flat own → target own ≡ Some v → bare own ≡ bare (Join w (a ∷ []))
      → AllBecome flat s.kept (read_by own) (a ∷ []) → CopiedOwn v a.number
  by_join (Join x []) v w a has t e all = absurd all
  by_join (Join x (b ∷ [])) v w a has t e all =
      record { own = Join x (b ∷ []); from = b.number; has = has; drives = t; copying = single x b; becomes = all.0 }
  by_join (Join x (b ∷ c ∷ more)) v w a has t e all = absurd all.1
  by_join _ v w a has t e all = absurd (cc)

  by_either : (own : Cell) (v : ℕ) (w c a b : WireId) → HasCell flat own → target own ≡ Some v → bare own ≡ bare (Mux w c a b)
      → AllBecome flat s.kept (read_by own) (c ∷ a ∷ b ∷ [])
      → ((x y : ℕ) → Becomes flat s.kept x a.number → Becomes flat s.kept y b.number → Same flat x y) → CopiedOwn v a.number
  by_either (Mux x d y z) v w c a b has t e all equal = record {
    own = Mux x d y z;
    from = y.number;
    has = has;
    drives = t;
    copying = either x d y z (equal y.number z.number all.1.0 all.1.1.0);
    becomes = all.1.0;
  }
  by_either _ v w c a b has t e all equal = absurd (cc)

  choice_becomes : (on : Bool) (y z a b : ℕ) → Becomes flat s.kept y a → Becomes flat s.kept z b
      → Becomes flat s.kept (if on then y else z) (if on then a else b)
  choice_becomes true y z a b first second = first
  choice_becomes false y z a b first second = second

  by_choice : (own : Cell) (v : ℕ) (w c a b : WireId) (on : List Bool) → HasCell flat own → target own ≡ Some v → bare own ≡ bare (Mux w c a b)
      → AllBecome flat s.kept (read_by own) (c ∷ a ∷ b ∷ []) → ((x : ℕ) → Becomes flat s.kept x c.number → IsKnown flat x on)
      → CopiedOwn v (if number_of on == 1 then a.number else b.number)
  by_choice (Mux x d y z) v w c a b on has t e all known = record {
    own = Mux x d y z;
    from = if number_of on == 1 then y.number else z.number;
    has = has;
    drives = t;
    copying = chosen x d y z on (known d.number all.0);
    becomes = choice_becomes (number_of on == 1) y.number z.number a.number b.number all.1.0 all.1.1.0;
  }
  by_choice _ v w c a b on has t e all known = absurd (cc)

  -- a wire is equal to the one that is copied, if its own cell copies what becomes this
  same_copied : (v w a : ℕ) → CopiedOwn v a → Numbered w a → Same flat v w
  same_copied v w a c num =
      let is : c.becomes.by ≡ w = one_origin (length flat.ports.inputs) s.kept c.becomes.by w a c.becomes.numbered num in
      chained v c.from w (copied c.own v c.from c.has c.drives c.copying)
      (subst (λ x. Same flat c.from x) is (turned c.becomes.by c.from c.becomes.serves.same))

  mutual
    pub same_back : (m n : ℕ) → Same shared m n → (v w : ℕ) → Numbered v m → Numbered w n → Same flat v w
    same_back _ _ (itself n l) v w num mun =
        subst (λ x. Same flat v x) (one_origin (length flat.ports.inputs) s.kept v w n num mun) (itself v (origin_within v n num))
    same_back _ _ (turned m n e) v w num mun = turned w v (same_back m n e w v mun num)
    same_back _ _ (chained k m n e f) v w num mun =
        let middle = has_origin m (first_exists shared shared_is m n f) in
        chained v middle.0 w (same_back k m e v middle.0 num middle.1) (same_back m n f middle.0 w middle.1 mun)
    same_back _ _ (copied cell n a has t c) v w num mun =
        same_copied v w a (copy_back cell a c v n (cell_of flat sound shared s cell v n has t num)) mun
    same_back _ _ (equal_cells c d m n has there t u e all) v w num mun =
        cells_back c d v w m n (cell_of flat sound shared s c v m has t num) (cell_of flat sound shared s d w n there u mun) e
        (λ vs ws bs cs. all_back (read_by c) (read_by d) all vs ws bs cs)
    same_back _ _ (equal_bits m n bits k l) v w num mun = equal_bits v w bits (known_back m bits k v num) (known_back n bits l w mun)

    all_back : (ms ns : List WireId) → AllSame shared ms ns → (vs ws : List WireId) → AllBecome flat s.kept vs ms → AllBecome flat s.kept ws ns
        → AllSame flat vs ws
    all_back _ _ same_none vs ws bs cs = none_same vs ws bs cs
    all_back _ _ (same_and m n ms ns e all) vs ws bs cs =
        more_same m n ms ns vs ws bs cs
        (λ v w b c. same_becoming v w m.number n.number b c (λ x y num mun. same_back m.number n.number e x y num mun))
        (λ vs ws bs cs. all_back ms ns all vs ws bs cs)

    -- what a cell of the shared net copies, the own cell of its wire copied
    pub copy_back : (cell : Cell) (a : ℕ) → Copies shared cell a → (v n : ℕ) → IsSharedCell flat s.kept v n cell → CopiedOwn v a
    copy_back _ _ (copy w a) v n is =
        let own = own_cell (Copy w a) v n tt is in by_copy own.own v w a own.has own.drives own.like own.reads
    copy_back _ _ (whole w a high e) v n is =
        let own = own_cell (Cut w a high 0) v n tt is in by_cut own.own v w a high own.has own.drives own.like e own.reads
    copy_back _ _ (single w a) v n is =
        let own = own_cell (Join w (a ∷ [])) v n tt is in by_join own.own v w a own.has own.drives own.like own.reads
    copy_back _ _ (either w c a b e) v n is =
        let own = own_cell (Mux w c a b) v n tt is in
        by_either own.own v w c a b own.has own.drives own.like own.reads
        (λ x y first second. same_becoming x y a.number b.number first second (λ x y num mun. same_back a.number b.number e x y num mun))
    copy_back _ _ (chosen w c a b on k) v n is =
        let own = own_cell (Mux w c a b) v n tt is in
        by_choice own.own v w c a b on own.has own.drives own.like own.reads
        (λ x becomes. known_becoming x c.number on becomes (λ x num. known_back c.number on k x num))

    pub known_back : (n : ℕ) (bits : List Bool) → IsKnown shared n bits → (v : ℕ) → Numbered v n → IsKnown flat v bits
    known_back _ _ (constant w bits has) v num =
        like_constant (Const w bits) v w.number bits (cell_of flat sound shared s (Const w bits) v w.number has refl num) refl
    known_back _ _ (folded cell n values has f t all) v num =
        folded_back cell v n values f (cell_of flat sound shared s cell v n has t num) (λ ws bs. all_known_back (read_by cell) values all ws bs)
    known_back _ _ (carried m n bits e k) v num =
        let other = has_origin m (first_exists shared shared_is m n e) in
        carried other.0 v bits (same_back m n e other.0 v other.1 num) (known_back m bits k other.0 other.1)

    all_known_back : (ns : List WireId) (values : List (List Bool)) → AllKnown shared ns values → (ws : List WireId) → AllBecome flat s.kept ws ns
        → AllKnown flat ws values
    all_known_back _ _ known_none ws bs = none_known ws bs
    all_known_back _ _ (known_and n ns bits values k all) ws bs =
        more_known n ns ws bits values bs
        (λ w b. known_becoming w n.number bits b (λ x num. known_back n.number bits k x num))
        (λ ws bs. all_known_back ns values all ws bs)
