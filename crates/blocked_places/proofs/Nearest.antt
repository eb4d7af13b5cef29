-- What blocks first among places, by what blocks first among parts of them.
use Rattle.std.proofs.Common.{◌≡◌, ◌⊎◌, inl, inr, ◌∙◌, sym, ap, refl, subst, ℕ, suc, ◌<◌, ◌≤◌, arith}
use Rattle.std.proofs.Common.{List, [], ◌∷◌, ◌++◌, reverse, true, false, Option, Some, None}
use Rattle.std.proofs.lemmas.Bool.{cases_lt, false≢true}
use Rattle.std.specs.Option.{is_some}
use Rattle.chw_terms.specs.TermTree.{TermTree}
use Rattle.chw_typing.specs.Paths.{IsEarlier}
use Rattle.chw_typing.proofs.Order.{never_earlier, earlier_through}
use Rattle.rewriting.specs.Origins.{Origins}
use Rattle.rewriting.specs.Active.{Below, IsActive, at_it, below}
use Rattle.rewriting.specs.Spots.{Spot}
use Rattle.rewriting.proofs.OneStep.{one_below}
use Rattle.rewriting.proofs.OneWay.{one_active}
use Rattle.normal_forms.specs.Blocked.{Block, BlocksAt}
use Rattle.active_parts.proofs.Ways.{AreInOrder}
use Rattle.blocked_places.specs.Answers.{IsFree, BlocksFirst, block_of}
use Rattle.blocked_places.specs.Walks.{Blocking, IsBeforeThere, NothingBlocks, IsFirstAt, FindsFirst}
use Rattle.blocked_places.specs.Walks.{GoesOn, IsActiveBlock, IsBlockBelow, IsBlockAtPart}
use Rattle.blocked_places.specs.declared.block.Block.{Block as Found}
use Rattle.blocked_places.specs.declared.trail.Trail.{Trail}

-- what blocks by one is among what blocks by another
abbrev pub Among : Blocking → Blocking → Type 0
Among H K = (p : List ℕ) (b : Block) → H p b → K p b

pub finds_same : (H K : Blocking) (answer : Option Trail) → Among H K → Among K H
    → FindsFirst H answer → FindsFirst K answer
finds_same H K None to back none = λ p b x. none p b (back p b x)
finds_same H K (Some f) to back is =
    record {
      it = to (reverse f.back.items) (block_of f.block) is.it;
      first = λ q c x h. is.first q c (back q c x) h;
      distinct = is.distinct;
    }

pub no_root : (q : List ℕ) → IsEarlier q [] → ⊥
no_root [] h = h
no_root (i ∷ q) h = h

not_after : (p q : List ℕ) (b c : Block) → IsEarlier p q → IsBeforeThere q c p b → ⊥
not_after p q b c l (inl h) = never_earlier p (earlier_through p q p l h)
not_after p q b c l (inr h) = never_earlier p (subst (λ z. IsEarlier p z) h.0 l)

-- behind a path
pub record Behind (path : List ℕ) (H : Blocking) (p : List ℕ) (b : Block) : Type 0 where
  pub rest : List ℕ
  pub is : p ≡ path ++ rest
  pub there : H rest b

rest_is : (p q r : List ℕ) → p ++ q ≡ p ++ r → q ≡ r
rest_is [] q r h = h
rest_is (i ∷ p) q r h = rest_is p q r cc

rest_earlier : (p q r : List ℕ) → IsEarlier (p ++ q) (p ++ r) → IsEarlier q r
rest_earlier [] q r h = h
rest_earlier (i ∷ p) q r (inl l) = absurd (omega (arith, l))
rest_earlier (i ∷ p) q r (inr h) = rest_earlier p q r h.1

rest_before : (p q r : List ℕ) (b c : Block) → IsBeforeThere (p ++ q) b (p ++ r) c
    → IsBeforeThere q b r c
rest_before p q r b c (inl h) = inl (rest_earlier p q r h)
rest_before p q r b c (inr h) = inr (rest_is p q r h.0, h.1)

pub found_behind : (path : List ℕ) (H : Blocking) (found answer : Option Trail)
    → FindsFirst H found → GoesOn path found answer → FindsFirst (Behind path H) answer
found_behind path H None answer none is =
    subst (FindsFirst (Behind path H)) (sym is) (λ p b x. none x.rest b x.there)
found_behind path H (Some f) None first is = absurd is
found_behind path H (Some f) (Some g) first is =
    let back = reverse f.back.items in
    let b = block_of f.block in
    let whole : IsFirstAt (Behind path H) (path ++ back) b =
    record {
      it = record { rest = back; is = refl; there = first.it };
      first = λ q c x h.
          first.first x.rest c x.there
          (rest_before path x.rest back c b (subst (λ p. IsBeforeThere p c (path ++ back) b) x.is h));
      distinct = first.distinct;
    } in
    subst (λ p. IsFirstAt (Behind path H) p (block_of g.block)) (sym is.0)
    (subst (λ (k : Found). IsFirstAt (Behind path H) (path ++ back) (block_of k)) (sym is.1) whole)

-- at the place itself
pub found_here : (o : Origins) (at : Spot) (e : TermTree) (back : List ℕ) (b : Block)
    → BlocksFirst o at e b → back ≡ [] → IsFirstAt (IsActiveBlock o at e) (reverse back) b
found_here o at e back b is empty =
    subst (λ p. IsFirstAt (IsActiveBlock o at e) p b) (sym (ap reverse empty))
    (record {
      it = record { spot = at; term = e; active = at_it; blocks = is.blocks };
      first = before;
      distinct = is.distinct;
    })
  where
    before : (q : List ℕ) (c : Block) → IsActiveBlock o at e q c → IsBeforeThere q c [] b → ⊥
    before q c x (inl h) = no_root q h
    before q c x (inr h) =
        let same = one_active at_it (subst (λ p. IsActive o at e p x.spot x.term) h.0 x.active) in
        let here : BlocksAt o at e c =
        subst (λ s. BlocksAt o s e c) (sym same.0) (subst (λ z. BlocksAt o x.spot z c) (sym same.1) x.blocks) in
        omega (arith, is.first c here, h.1)

-- below it
active_below : {o : Origins} {at at' : Spot} {e x : TermTree} {p : List ℕ} → IsActive o at e p at' x
    → (b : Block) → BlocksAt o at' x b → IsFree o at e → IsBlockBelow o at e p b
active_below at_it b blocks free = absurd (free b blocks)
active_below (below {at' = mid} {at'' = last} {x = c} {y = y} {p = q} {q = r} under more) b blocks free =
    record {
      part = q;
      spot = mid;
      term = c;
      below = under;
      rest = r;
      is = refl;
      there = record { spot = last; term = y; active = more; blocks = blocks };
    }

below_active : (o : Origins) (at : Spot) (e : TermTree) → Among (IsBlockBelow o at e) (IsActiveBlock o at e)
below_active o at e p b x =
    record {
      spot = x.there.spot;
      term = x.there.term;
      active =
          subst (λ q. IsActive o at e q x.there.spot x.there.term) (sym x.is) (below x.below x.there.active);
      blocks = x.there.blocks;
    }

pub found_below : (o : Origins) (at : Spot) (e : TermTree) (answer : Option Trail) → IsFree o at e
    → FindsFirst (IsBlockBelow o at e) answer → FindsFirst (IsActiveBlock o at e) answer
found_below o at e answer free =
    finds_same (IsBlockBelow o at e) (IsActiveBlock o at e) answer (below_active o at e)
    (λ p b x. active_below x.active b x.blocks free)

-- at or below a part
pub found_at_part : (o : Origins) (at at' : Spot) (e x : TermTree) (path : List ℕ)
    (found answer : Option Trail)
    → Below o at e path at' x → FindsFirst (IsActiveBlock o at' x) found
    → GoesOn path found answer → FindsFirst (IsBlockAtPart o at e path) answer
found_at_part o at at' e x path found answer under first on =
    finds_same (Behind path (IsActiveBlock o at' x)) (IsBlockAtPart o at e path) answer
    (λ p b h. record { spot = at'; term = x; below = under; rest = h.rest; is = h.is; there = h.there })
    (λ p b h.
    let same = one_below o at h.spot at' e h.term x path h.below under in
    record {
      rest = h.rest;
      is = h.is;
      there = subst (λ s. IsActiveBlock o s x h.rest b) same.0 (subst (λ z. IsActiveBlock o h.spot z h.rest b) same.1 h.there);
    })
    (found_behind path (IsActiveBlock o at' x) found answer first on)

-- the parts in turn: none of the first n has anything that blocks
abbrev pub NoneBefore : Origins → Spot → TermTree → (ℕ → List ℕ) → ℕ → Type 0
NoneBefore o at e way n = (i : ℕ) → i < n → NothingBlocks (IsBlockAtPart o at e (way i))

pub none_at_start : (o : Origins) (at : Spot) (e : TermTree) (way : ℕ → List ℕ)
    → NoneBefore o at e way 0
none_at_start o at e way i l = absurd (omega (arith, l))

nothing : (P : Option Trail → Type 0) (found : Option Trail) → is_some found ≡ false
    → P found → P None
nothing P None h p = p
nothing P (Some f) h p = absurd (false≢true (sym h))

pub none_up_to_next : (o : Origins) (at : Spot) (e : TermTree) (way : ℕ → List ℕ) (n : ℕ)
    (found : Option Trail) → is_some found ≡ false → NoneBefore o at e way n
    → FindsFirst (IsBlockAtPart o at e (way n)) found → NoneBefore o at e way (suc n)
none_up_to_next o at e way n found empty none here i l p b x = by (cases_lt i n)
  where
    last : NothingBlocks (IsBlockAtPart o at e (way n))
    last = nothing (FindsFirst (IsBlockAtPart o at e (way n))) found empty here

    by : (i < n) ⊎ (n ≤ i) → ⊥
    by (inl m) = none i m p b x
    by (inr m) =
        let is : i ≡ n = omega (arith, l, m) in
        last p b (subst (λ k. IsBlockAtPart o at e (way k) p b) is x)

-- there are only the first n parts
abbrev pub HaveNumbers : Origins → Spot → TermTree → (ℕ → List ℕ) → ℕ → Type 0
HaveNumbers o at e way n =
    (p : List ℕ) (at' : Spot) (x : TermTree) → Below o at e p at' x
    → (i : ℕ) × (i < n) × (p ≡ way i)

at_number : (o : Origins) (at : Spot) (e : TermTree) (way : ℕ → List ℕ) (n : ℕ)
    → HaveNumbers o at e way n → (p : List ℕ) (b : Block) → IsBlockBelow o at e p b
    → (i : ℕ) × (i < n) × IsBlockAtPart o at e (way i) p b
at_number o at e way n all p b x =
    let it = all x.part x.spot x.term x.below in (
      it.0,
      it.1,
      record {
        spot = x.spot;
        term = x.term;
        below = subst (λ q. Below o at e q x.spot x.term) it.2 x.below;
        rest = x.rest;
        is = x.is ∙ ap (λ q. q ++ x.rest) it.2;
        there = x.there;
      },
    )

pub none_at_all : (o : Origins) (at : Spot) (e : TermTree) (way : ℕ → List ℕ) (n m : ℕ)
    → HaveNumbers o at e way n → n ≤ m → NoneBefore o at e way m
    → FindsFirst (IsBlockBelow o at e) None
none_at_all o at e way n m all l none p b x =
    let it = at_number o at e way n all p b x in none it.0 (omega (arith, it.1, l)) p b it.2

-- the ways are in the order of the numbers
abbrev pub InOrder : (ℕ → List ℕ) → ℕ → Type 0
InOrder way n = (i j : ℕ) → i < j → j < n → AreInOrder (way i) (way j)

in_order : (o : Origins) (at : Spot) (e : TermTree) (way : ℕ → List ℕ) (i j : ℕ) (p q : List ℕ)
    (b c : Block)
    → AreInOrder (way i) (way j) → IsBlockAtPart o at e (way i) p b
    → IsBlockAtPart o at e (way j) q c → IsEarlier p q
in_order o at e way i j p q b c order x y =
    subst (λ z. IsEarlier z q) (sym x.is)
    (subst (λ z. IsEarlier (way i ++ x.rest) z) (sym y.is) (order x.rest y.rest))

pub found_at_number : (o : Origins) (at : Spot) (e : TermTree) (way : ℕ → List ℕ) (n m : ℕ)
    (found : Option Trail)
    → is_some found ≡ true → HaveNumbers o at e way m → InOrder way m → NoneBefore o at e way n
    → FindsFirst (IsBlockAtPart o at e (way n)) found → FindsFirst (IsBlockBelow o at e) found
found_at_number o at e way n m None some all order none is = absurd (false≢true some)
found_at_number o at e way n m (Some f) some all order none is =
    record {
      it = record {
        part = way n;
        spot = is.it.spot;
        term = is.it.term;
        below = is.it.below;
        rest = is.it.rest;
        is = is.it.is;
        there = is.it.there;
      };
      first = before;
      distinct = is.distinct;
    }
  where
    p : List ℕ
    p = reverse f.back.items

    b : Block
    b = block_of f.block

    by : (q : List ℕ) (c : Block) → IsBeforeThere q c p b → (i : ℕ) → i < m
        → IsBlockAtPart o at e (way i) q c → (i < n) ⊎ (n ≤ i) → (n < i) ⊎ (i ≤ n) → ⊥
    by q c h i l x (inl a) k = none i a q c x
    by q c h i l x (inr a) (inl k) =
        not_after p q b c (in_order o at e way n i p q b c (order n i k l) is.it x) h
    by q c h i l x (inr a) (inr k) =
        let same : i ≡ n = omega (arith, a, k) in
        is.first q c (subst (λ j. IsBlockAtPart o at e (way j) q c) same x) h

    before : (q : List ℕ) (c : Block) → IsBlockBelow o at e q c → IsBeforeThere q c p b → ⊥
    before q c x h =
        let it = at_number o at e way m all q c x in
        by q c h it.0 it.1 it.2 (cases_lt it.0 n) (cases_lt n it.0)
