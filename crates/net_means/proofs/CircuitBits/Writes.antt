-- What a write to a block RAM shows: nothing, or an address and a value.
use Rattle.std.specs.Prelude.{codes}
use Rattle.std.proofs.Common.{◌≡◌, ◌+◌, ℕ, suc, Bool, true, false, List, [], ◌∷◌, ◌++◌, length, take, drop, Some, refl, sym, ap, ◌∙◌, subst, arith, append-nil, length-append}
use Rattle.chw_types.specs.declared.declarations.Data.{Data}
use Rattle.chw_types.specs.declared.kind.Scalar.TheVariants.{U}
use Rattle.chw_types.specs.BuiltIn.{built_in, constructor_of}
use Rattle.chw_types.specs.TypeMoves.{Substitution, sub}
use Rattle.chw_types.specs.TypeTree.{TypeTree, TypeTrees, ty_var, scalar, no_types, type_and}
use Rattle.chw_prims.specs.Schemas.{maybe, pair}
use Rattle.chw_terms.specs.Constructors.{Constructor, con_at}
use Rattle.chw_terms.specs.declared.program.Program.{Program}
use Rattle.chw_layout.specs.Measured.{HasWidth}
use Rattle.chw_meaning.specs.Values.{History, con_of, Thunk, field, Thunks, none, thunk_and, thunk_at, count_of}
use Rattle.chw_meaning.specs.Eval.{Forces}
use Rattle.carrying.specs.Carrying.{tag_of, Shows, shows_nothing, shows_bits, CarryFields, carry_field, carry_no_field}
use Rattle.carrying.specs.DataLaws.{tag_in, Parts, no_parts, part_and}
use Rattle.net_grounds.specs.Facts.{Facts}
use Rattle.net_means.proofs.MaybePairs.{maybe_data, pair_data, Stand, stand, maybe_width, pair_width}

abbrev nothing_con : Constructor
nothing_con = record { of = 1; it = maybe_data; decl = constructor_of (codes "Nothing") [] }

abbrev just_con : Constructor
just_con = record { of = 1; it = maybe_data; decl = constructor_of (codes "Just") (ty_var 0 ∷ []) }

abbrev pair_con : Constructor
pair_con = record { of = 2; it = pair_data; decl = constructor_of (codes "Pair") (ty_var 1 ∷ ty_var 0 ∷ []) }

-- where the constructors of the built-in data types stand, and their tags
record Tagged (datas : List Data) : Type 0 where
  nothing_there : con_at datas 2 ≡ Some nothing_con
  just_there : con_at datas 3 ≡ Some just_con
  pair_con_there : con_at datas 4 ≡ Some pair_con
  nothing_tag : tag_of datas 2 nothing_con ≡ false ∷ []
  just_tag : tag_of datas 3 just_con ≡ true ∷ []
  pair_tag : tag_of datas 4 pair_con ≡ []

tagged : (datas others : List Data) → datas ≡ built_in ++ others → Tagged datas
tagged datas others e =
    subst Tagged (sym e)
    (record {
      nothing_there = refl;
      just_there = refl;
      pair_con_there = refl;
      nothing_tag = refl;
      just_tag = refl;
      pair_tag = refl;
    })

-- nothing is written
pub record Untouched (p : Program) (th : Thunk) (h : History) : Type 0 where
  pub turns : ℕ
  pub forces : Forces p turns th h (con_of 2 none)

-- a value is written at an address; both stand in these bits, which have so many bits of the address first
pub record Touched (p : Program) (k a : TypeTree) (th : Thunk) (h : History) (size width : ℕ) (rest : List Bool) : Type 0 where
  pub turns : ℕ
  pub couple : Thunk
  pub forces : Forces p turns th h (con_of 3 (thunk_and couple none))
  pub place : Shows p (scalar U k) (field 1 couple) h (take size rest)
  pub value : Shows p a (field 0 couple) h (take width (drop size rest))

-- the first bit says whether one is
pub data WriteShown (p : Program) (k a : TypeTree) (th : Thunk) (h : History) (size width : ℕ) : List Bool → Type 0 where
  nothing_written : {rest : List Bool} → Untouched p th h → WriteShown p k a th h size width (false ∷ rest)
  value_written : {rest : List Bool} → Touched p k a th h size width rest → WriteShown p k a th h size width (true ∷ rest)

no_thunks : (ths : Thunks) → count_of ths ≡ 0 → ths ≡ none
no_thunks none e = refl
no_thunks (thunk_and th ths) e = absurd (omega (arith, e))

-- a single field
record Alone (p : Program) (t : TypeTree) (ths : Thunks) (bits : List Bool) : Type 0 where
  thunk : Thunk
  is : ths ≡ thunk_and thunk none
  shows : (h : History) → Shows p t thunk h bits

alone : {p : Program} {f : TypeTree} {σ : Substitution} {ths : Thunks} {bits : List Bool} → count_of ths ≡ 1 → CarryFields p (f ∷ []) σ ths bits → Alone p (sub f σ) ths bits
alone {p} {f} {σ} {ths} e (carry_field {th = th} {b = b} at carries carry_no_field) = by ths e at
  where
    by : (ths : Thunks) → count_of ths ≡ 1 → thunk_at ths 0 ≡ Some th → Alone p (sub f σ) ths (b ++ [])
    by none e at = absurd (omega (arith, e))
    by (thunk_and first more) e at =
        let is : first ≡ th = cc in
        let none_more : more ≡ none = no_thunks more (omega (arith, e)) in
        record {
          thunk = th;
          is = λ i. thunk_and (is i) (none_more i);
          shows = λ h. subst (λ b. Shows p (sub f σ) th h b) (sym (append-nil b)) (carries h);
        }

-- bits that are as long as those with more behind them are those
no_more : (bits more rest : List Bool) → bits ++ more ≡ rest → length bits ≡ length rest → bits ≡ rest
no_more bits [] rest e l = sym (append-nil bits) ∙ e
no_more bits (x ∷ more) rest e l = let size = length-append bits (x ∷ more) in let same = ap length e in absurd (omega (arith, size, same, l))

module _ (facts : Facts) (p : Program) (others : List Data) (begins : p.datas ≡ built_in ++ others) (k a : TypeTree) (size width : ℕ) (sized : HasWidth p.datas (scalar U k) size) (wide : HasWidth p.datas a width) where
  stands : Stand p.datas
  stands = stand p.datas others begins

  at : Tagged p.datas
  at = tagged p.datas others begins

  -- an optional pair has its bit before both
  pub write_width : (w : ℕ) → HasWidth p.datas (maybe (pair (scalar U k) a)) w → w ≡ suc (size + width)
  write_width w has =
      let m = maybe_width facts stands has in
      let c = pair_width facts stands m.1 in
      let first = facts.widths.width_once c.2 sized in
      let second = facts.widths.width_once c.3 wide in
      let is = m.2 in
      let sum = c.4 in
      omega (arith, first, second, is, sum)

  -- the parts of a pair
  couple_shows : (th : Thunk) (h : History) (rest : List Bool) → Shows p (pair (scalar U k) a) th h rest → Shows p (scalar U k) (field 1 th) h (take size rest) × Shows p a (field 0 th) h (take width (drop size rest))
  unfolding sub
  couple_shows th h rest shown =
      let ts : TypeTrees = type_and (scalar U k) (type_and a no_types) in
      let parts : List (List Bool) = take size rest ∷ take width (drop size rest) ∷ [] in
      let has : Parts p.datas (scalar U k ∷ a ∷ []) rest parts = part_and sized (part_and wide no_parts) in
      let tag : tag_in pair_con rest ≡ tag_of p.datas 4 pair_con = sym at.pair_tag in (
        facts.data_bits.field_shows p 4 pair_con ts th h rest parts 1 0 (scalar U k) (take size rest) at.pair_con_there shown tag has refl refl refl,
        facts.data_bits.field_shows p 4 pair_con ts th h rest parts 0 1 a (take width (drop size rest)) at.pair_con_there shown tag has refl refl refl,
      )

  pub write_shown : (th : Thunk) (h : History) (bits : List Bool) → Shows p (maybe (pair (scalar U k) a)) th h bits → WriteShown p k a th h size width bits
  unfolding sub
  write_shown th h bits (shows_nothing z) = let size = write_width 0 z in absurd (omega (arith, size))
  write_shown th h [] (shows_bits some f held) =
      let long = facts.shows.held_length held some.1 in absurd (omega (arith, long))
  write_shown th h (false ∷ rest) (shows_bits {n = n} some f held) =
      let v = facts.data_bits.is_built p 2 1 nothing_con (type_and (pair (scalar U k) a) no_types) _ (false ∷ rest) at.nothing_there refl held (sym at.nothing_tag) in
      nothing_written
      (record {
        turns = n;
        forces = subst (λ ths. Forces p n th h (con_of 2 ths)) (no_thunks v.ths v.many) (subst (λ v. Forces p n th h v) v.is f);
      })
  write_shown th h (true ∷ rest) (shows_bits {n = n} some f held) =
      let v = facts.data_bits.is_built p 3 1 just_con (type_and (pair (scalar U k) a) no_types) _ (true ∷ rest) at.just_there refl held (sym at.just_tag) in
      let one : Alone p (pair (scalar U k) a) v.ths v.bits = alone v.many v.fields in
      let m = maybe_width facts stands some.1 in
      let long = facts.shows.held_length held some.1 in
      let short = facts.shows.shown_length (one.shows h) m.1 in
      let is = m.2 in
      let same : v.bits ≡ rest = no_more v.bits v.more rest v.rest (omega (arith, long, short, is)) in
      let both = couple_shows one.thunk h rest (subst (λ b. Shows p (pair (scalar U k) a) one.thunk h b) same (one.shows h)) in
      value_written
      (record {
        turns = n;
        couple = one.thunk;
        forces = subst (λ ths. Forces p n th h (con_of 3 ths)) one.is (subst (λ v. Forces p n th h v) v.is f);
        place = both.0;
        value = both.1;
      })
