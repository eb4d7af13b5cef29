-- The order of modules: each stands behind those that it uses and that have outputs.
use Rattle.std.proofs.Common.{◌≡◌, ◌⊎◌, inl, inr, ℕ, zero, suc, ◌+◌, ◌<◌, ◌≤◌, ◌==◌, Bool, true, false, ◌||◌, arith, List, [], ◌∷◌, ◌++◌, length, take, length-append, Some, refl, sym, ap, ◌∙◌, subst, eq-eqb}
use Rattle.std.specs.Prelude.{if◌then◌else◌}
use Rattle.std.specs.List.{slice_get, AllByRecursion}
use Rattle.std.proofs.lemmas.Bool.{eqb-true}
use Rattle.std.proofs.lemmas.List.{append-nil, append_assoc}
use Rattle.std.proofs.lemmas.Option.{slice_get_within}
use Rattle.chw_types.specs.declared.declarations.Data.{Data}
use Rattle.chw_terms.specs.declared.program.Program.{Program}
use Rattle.chw_terms.specs.declared.scene.Made.{Made}
use Rattle.netlist.specs.declared.net.Module.{Module}
use Rattle.netlist.specs.declared.net.Net.{Net}
use Rattle.net_built.specs.Built.{Built, ground_of}
use Rattle.net_built.specs.Circuits.{Ground, place_in}
use Rattle.net_built.specs.Modules.{IsModuleOf, AreModules, HasOutputs, holds, made_in, Visited, already, without_outputs, behind_its_uses, AllVisited, none_visited, visited_and}
use Rattle.net_means.proofs.Lists.{same_some}

-- a made definition without outputs
abbrev pub NoOutputs : List Data → List Made → ℕ → Type 0
NoOutputs datas state m = (it : Made) × (slice_get state m ≡ Some it) × HasOutputs datas it 0

-- it has no outputs, or stands in the order before this place
abbrev pub BeforePlace : List Data → List Made → List ℕ → ℕ → ℕ → Type 0
BeforePlace datas state order i m = NoOutputs datas state m ⊎ (place_in order m < i)

-- so each of these
abbrev pub AllBefore : List Data → List Made → List ℕ → ℕ → List ℕ → Type 0
AllBefore datas state order i ms = AllByRecursion (λ m. BeforePlace datas state order i m) ms

-- each in the order stands behind those that it uses
pub record Behind (datas : List Data) (state : List Made) (order : List ℕ) : Type 0 where
  pub each : (i m : ℕ) (it : Made) → slice_get order i ≡ Some m → slice_get state m ≡ Some it → AllBefore datas state order i (made_in it.body)

less_choice : (b : Bool) (n k : ℕ) → n < k → (if b then 0 else suc n) < suc k
less_choice true n k l = omega arith
less_choice false n k l = omega (arith, l)

held_choice : (b c : Bool) (n k : ℕ) → (b || c) ≡ true → (c ≡ true → n < k) → (if b then 0 else suc n) < suc k
held_choice true c n k h l = omega arith
held_choice false c n k h l = let here = l h in omega (arith, here)

holds_place : (order : List ℕ) (m : ℕ) → holds order m ≡ true → place_in order m < length order
holds_place [] m h = absurd cc
holds_place (k ∷ order) m h = held_choice (k == m) (holds order m) (place_in order m) (length order) h (λ h. holds_place order m h)

same_choice : (b : Bool) (n k l : ℕ) → (if b then 0 else suc n) < suc k → (n < k → l ≡ n) → (if b then 0 else suc l) ≡ (if b then 0 else suc n)
same_choice true n k l h e = refl
same_choice false n k l h e = ap suc (e (omega (arith, h)))

-- the place stays as the order grows
place_kept : (order more : List ℕ) (m : ℕ) → place_in order m < length order → place_in (order ++ more) m ≡ place_in order m
place_kept [] more m l = absurd (omega (arith, l))
place_kept (k ∷ order) more m l = same_choice (k == m) (place_in order m) (length order) (place_in (order ++ more) m) l (λ l. place_kept order more m l)

last_choice : (b : Bool) → b ≡ true → (if b then 0 else suc 0) < 1
last_choice true h = omega arith
last_choice false h = absurd cc

place_at_end : (order : List ℕ) (m : ℕ) → place_in (order ++ m ∷ []) m < length (order ++ m ∷ [])
place_at_end [] m = last_choice (m == m) (eq-eqb m m refl)
place_at_end (k ∷ order) m = less_choice (k == m) (place_in (order ++ m ∷ []) m) (length (order ++ m ∷ [])) (place_at_end order m)

there_choice : (b : Bool) (order : List ℕ) (k m : ℕ) → (b ≡ true → k ≡ m) → (if b then 0 else suc (place_in order m)) < suc (length order) → (place_in order m < length order → slice_get order (place_in order m) ≡ Some m) → slice_get (k ∷ order) (if b then 0 else suc (place_in order m)) ≡ Some m
there_choice true order k m e l h = ap Some (e refl)
there_choice false order k m e l h = h (omega (arith, l))

-- at that place it stands
place_there : (order : List ℕ) (m : ℕ) → place_in order m < length order → slice_get order (place_in order m) ≡ Some m
place_there [] m l = absurd (omega (arith, l))
place_there (k ∷ order) m l = there_choice (k == m) order k m (λ h. eqb-true k m h) l (λ l. place_there order m l)

kept_before : (datas : List Data) (state : List Made) (order more : List ℕ) (i : ℕ) (ms : List ℕ) → i ≤ length order → AllBefore datas state order i ms → AllBefore datas state (order ++ more) i ms
kept_before datas state order more i [] l h = tt
kept_before datas state order more i (m ∷ ms) l h = (one h.0, kept_before datas state order more i ms l h.1)
  where
    one : BeforePlace datas state order i m → BeforePlace datas state (order ++ more) i m
    one (inl none) = inl none
    one (inr less) =
        let same = place_kept order more m (omega (arith, less, l)) in
        inr (omega (arith, less, same))

-- what holds of each in the order and of one more holds of the longer order
at_end : (order : List ℕ) (m : ℕ) (P : ℕ → ℕ → Type 0) → P (length order) m → ((i n : ℕ) → slice_get order i ≡ Some n → P i n) → (i n : ℕ) → slice_get (order ++ m ∷ []) i ≡ Some n → P i n
at_end [] m P last each zero n e = let is : m ≡ n = cc in subst (λ n. P 0 n) is last
at_end [] m P last each (suc i) n e = absurd cc
at_end (x ∷ order) m P last each zero n e = each 0 n e
at_end (x ∷ order) m P last each (suc i) n e = at_end order m (λ i n. P (suc i) n) last (λ i n e. each (suc i) n e) i n e

end_behind : {datas : List Data} {state : List Made} (order : List ℕ) (m : ℕ) (it : Made) → Behind datas state order → slice_get state m ≡ Some it → AllBefore datas state order (length order) (made_in it.body) → Behind datas state (order ++ m ∷ [])
end_behind {datas} {state} order m it h is all =
    let last : (jt : Made) → slice_get state m ≡ Some jt → AllBefore datas state (order ++ m ∷ []) (length order) (made_in jt.body) =
    λ jt e.
    let same : it ≡ jt = same_some is e in
    subst (λ (jt : Made). AllBefore datas state (order ++ m ∷ []) (length order) (made_in jt.body)) same (kept_before datas state order (m ∷ []) (length order) (made_in it.body) (omega arith) all) in
    let before : (i n : ℕ) → slice_get order i ≡ Some n → (jt : Made) → slice_get state n ≡ Some jt → AllBefore datas state (order ++ m ∷ []) i (made_in jt.body) =
    λ i n e jt f.
    let within = slice_get_within order i n e in
    kept_before datas state order (m ∷ []) i (made_in jt.body) (omega (arith, within)) (h.each i n jt e f) in
    record { each = λ i n jt e f. at_end order m (λ i n. (jt : Made) → slice_get state n ≡ Some jt → AllBefore datas state (order ++ m ∷ []) i (made_in jt.body)) last before i n e jt f }

-- the order has grown, and each in it still stands behind those that it uses
record Grown (datas : List Data) (state : List Made) (order longer : List ℕ) : Type 0 where
  pub more : List ℕ
  pub are : longer ≡ order ++ more
  pub behind : Behind datas state longer

then_grown : {datas : List Data} {state : List Made} {a b c : List ℕ} → Grown datas state a b → Grown datas state b c → Grown datas state a c
then_grown {a = a} g h =
    record {
      more = g.more ++ h.more;
      are = h.are ∙ ap (λ (l : List ℕ). l ++ h.more) g.are ∙ append_assoc a g.more h.more;
      behind = h.behind;
    }

grown_before : {datas : List Data} {state : List Made} {order longer : List ℕ} (m : ℕ) → Grown datas state order longer → BeforePlace datas state order (length order) m → BeforePlace datas state longer (length longer) m
grown_before m g (inl none) = inl none
grown_before {datas} {state} {order} {longer} m g (inr less) =
    let same = place_kept order g.more m less in
    let size : length (order ++ g.more) ≡ length order + length g.more = length-append order g.more in
    let fits : place_in (order ++ g.more) m < length (order ++ g.more) = omega (arith, less, same, size) in
    inr (subst (λ l. place_in l m < length l) (sym g.are) fits)

mutual
  visited_grown : {datas : List Data} {state : List Made} {order longer : List ℕ} {m : ℕ} → Visited datas state order m longer → Behind datas state order → Grown datas state order longer × BeforePlace datas state longer (length longer) m
  visited_grown {order = order} {m = m} (already h) b = (record { more = []; are = sym (append-nil order); behind = b }, inr (holds_place order m h))
  visited_grown {order = order} (without_outputs {it = it} h is none) b = (record { more = []; are = sym (append-nil order); behind = b }, inl (it, is, none))
  visited_grown {datas} {state} {order} (behind_its_uses {longer = longer} {m = m} {it = it} h is some uses) b =
      let all = all_grown uses b in
      let end = end_behind longer m it all.0.behind is all.1 in
      (then_grown all.0 (record { more = m ∷ []; are = refl; behind = end }), inr (place_at_end longer m))

  all_grown : {datas : List Data} {state : List Made} {order longer ms : List ℕ} → AllVisited datas state order ms longer → Behind datas state order → Grown datas state order longer × AllBefore datas state longer (length longer) ms
  all_grown {order = order} none_visited b = (record { more = []; are = sym (append-nil order); behind = b }, tt)
  all_grown {order = order} (visited_and {m = m} first more) b =
      let one = visited_grown first b in
      let rest = all_grown more one.0.behind in
      (then_grown one.0 rest.0, (grown_before m rest.0 one.1, rest.1))

-- the module that a use names: it stands among those before, and is that of the made definition
pub record UsedModule (ground : Ground) (state : List Made) (earlier : List Module) (m : ℕ) : Type 0 where
  pub used : Module
  pub found : slice_get earlier (place_in ground.order m) ≡ Some used
  pub it : Made
  pub is : slice_get state m ≡ Some it
  pub made_of : IsModuleOf ground it used

taken : {A : Type 0} (xs : List A) (i k : ℕ) (x : A) → k < i → slice_get xs k ≡ Some x → slice_get (take i xs) k ≡ Some x
taken xs zero k x l e = absurd (omega (arith, l))
taken [] (suc i) k x l e = e
taken (y ∷ xs) (suc i) zero x l e = e
taken (y ∷ xs) (suc i) (suc k) x l e = taken xs i k x (omega (arith, l)) e

-- the module of the made definition at a place of the order
module_there : (ground : Ground) (state : List Made) (ms : List ℕ) (modules : List Module) (k m : ℕ) → AreModules ground state ms modules → slice_get ms k ≡ Some m → (built : Module) × (slice_get modules k ≡ Some built) × ((it : Made) × (slice_get state m ≡ Some it) × IsModuleOf ground it built)
module_there ground state [] modules k m all e = absurd cc
module_there ground state (n ∷ ms) [] k m all e = absurd all
module_there ground state (n ∷ ms) (x ∷ modules) zero m all e =
    let is : n ≡ m = cc in
    (x, refl, subst (λ m. (it : Made) × (slice_get state m ≡ Some it) × IsModuleOf ground it x) is all.0)
module_there ground state (n ∷ ms) (x ∷ modules) (suc k) m all e = module_there ground state ms modules k m all.1 e

none_behind : (datas : List Data) (state : List Made) → Behind datas state []
none_behind datas state = record { each = λ i m it e f. absurd cc }

-- in a net that is built each made definition stands behind those that it uses
pub order_behind : (p : Program) (state : List Made) (net : Net) (of : Built p state net) → Behind p.datas state of.order
order_behind p state net of =
    let all = all_grown of.is_order.visited (none_behind p.datas state) in
    subst (λ order. Behind p.datas state order) (sym of.is_order.whole) (end_behind of.is_order.below 0 of.is_order.top all.0.behind of.is_order.is_top all.1)

-- one that stands before a place has its module there
pub used_there : (p : Program) (state : List Made) (net : Net) (of : Built p state net) (i m : ℕ) → i ≤ length of.order → place_in of.order m < i → UsedModule (ground_of p of.order) state (take i net.modules) m
used_there p state net of i m l less =
    let there = place_there of.order m (omega (arith, less, l)) in
    let at = module_there (ground_of p of.order) state of.order net.modules (place_in of.order m) m of.modules there in
    record {
      used = at.0;
      found = taken net.modules i (place_in of.order m) at.0 less at.1;
      it = at.2.0;
      is = at.2.1;
      made_of = at.2.2;
    }
