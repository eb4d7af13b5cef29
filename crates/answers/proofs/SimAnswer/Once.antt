-- A program and a text have one simulation.
use Rattle.std.proofs.Common.{◌≡◌, ℕ, suc, zero, Bool, List, [], ◌∷◌, length, Some, refl, sym, ap, ap₂, ◌∙◌, subst, arith}
use Rattle.std.specs.Prelude.{slice_get}
use Rattle.chw_clock.specs.declared.event.Event.{Event}
use Rattle.chw_clock.specs.declared.event.Ports.{Ports}
use Rattle.type_ports.specs.declared.ports.Leaf.{Leaf}
use Rattle.chw_terms.specs.declared.program.Program.{Program}
use Rattle.chw_layout.specs.Encodes.{Encodes}
use Rattle.chw_layout.specs.EncodingPromises.{OneEncoding}
use Rattle.chw_meaning.specs.Laws.{OneMeaning, OnePorts}
use Rattle.chw_meaning.specs.Means.{IsPortAt}
use Rattle.chw_meaning.specs.Values.{History}
use Rattle.chw_meaning.proofs.Once.{same_some}
use Rattle.stimulus.specs.Stimulus.{Stim}
use Rattle.answers.specs.SimAnswer.Laws.{OneSimulation}
use Rattle.answers.specs.SimAnswer.Simulation.{AreMeant, IsMeant, MeantAt, meant_at_none, meant_at_more, shown}
use Rattle.answers.proofs.SimAnswer.Tops.{port_at_once, top_once}

abbrev pub OneStimulus : Type 0
OneStimulus = (text : List ℕ) (ports : Ports) (a b : List Event) → Stim text ports a → Stim text ports b → a ≡ b

-- lists of one length with equal items
same_list : {A : Type 0} (xs ys : List A) → length xs ≡ length ys → ((k : ℕ) (x y : A) → slice_get xs k ≡ Some x → slice_get ys k ≡ Some y → x ≡ y) → xs ≡ ys
same_list [] [] many each = refl
same_list [] (y ∷ ys) many each = absurd (omega (arith, many))
same_list (x ∷ xs) [] many each = absurd (omega (arith, many))
same_list (x ∷ xs) (y ∷ ys) many each =
    ap₂ (λ z zs. z ∷ zs) (each zero x y refl refl) (same_list xs ys (omega (arith, many)) (λ k a b. each (suc k) a b))

module _ (means_once : OneMeaning) (encodes_once : OneEncoding) (p : Program) where
  bits_once : (h : History) (k : ℕ) (a b : List Bool) → IsMeant p h k a → IsMeant p h k b → a ≡ b
  bits_once h k a b x y =
      let value : y.value ≡ x.value = means_once p h k y.value x.value y.means x.means in
      let outs : y.means.outs ≡ x.means.outs = (top_once y.means.top x.means.top).1 in
      let place : y.means.leaf ≡ x.means.leaf = port_at_once (subst (λ ls. IsPortAt p.datas ls y.means.leaf k) outs y.means.is_port) x.means.is_port in
      let at : slice_get x.means.outs x.means.leaf ≡ Some y.leaf =
      subst (λ n. slice_get x.means.outs n ≡ Some y.leaf) place (subst (λ ls. slice_get ls y.means.leaf ≡ Some y.leaf) outs y.is_leaf) in
      let leaf : y.leaf ≡ x.leaf = same_some at x.is_leaf in
      encodes_once p.datas x.leaf.payload x.value a b x.encodes
      (subst (λ (l : Leaf). Encodes p.datas l.payload x.value b) leaf (subst (λ v. Encodes p.datas y.leaf.payload v b) value y.encodes))

  outputs_once : (many : ℕ) (h : History) (a b : List (List Bool)) → AreMeant p many h a → AreMeant p many h b → a ≡ b
  outputs_once many h a b x y = same_list a b (x.as_many ∙ sym y.as_many) (λ k c d i j. bits_once h k c d (x.each k c i) (y.each k d j))

  -- the outputs at events
  pub all_once : (many : ℕ) (past events : List Event) (a b : List (List (List Bool))) → MeantAt p many past events a → MeantAt p many past events b → a ≡ b
  all_once many past _ _ _ (meant_at_none _) (meant_at_none _) = refl
  all_once many past _ _ _ (meant_at_more _ events event a as' x xs) (meant_at_more _ _ _ b bs y ys) =
      ap₂ (λ z zs. z ∷ zs) (outputs_once many (event ∷ past) a b x y) (all_once many (event ∷ past) events as' bs xs ys)

pub one_simulation : OnePorts → OneMeaning → OneEncoding → OneStimulus → OneSimulation
one_simulation ports_once means_once encodes_once once p form text a b x y =
    let ports : y.ports ≡ x.ports = ports_once p y.ports x.ports y.stimulus.has.are_ports x.stimulus.has.are_ports in
    let events : y.events ≡ x.events = once text x.ports y.events x.events (subst (λ ps. Stim text ps y.events) ports y.stimulus.read) x.stimulus.read in
    let meant : MeantAt p (length x.ports.outputs) [] x.events y.outputs =
    subst (λ es. MeantAt p (length x.ports.outputs) [] es y.outputs) events (subst (λ (ps : Ports). MeantAt p (length ps.outputs) [] y.events y.outputs) ports y.meant) in
    let outputs : x.outputs ≡ y.outputs = all_once means_once encodes_once p (length x.ports.outputs) [] x.events x.outputs y.outputs x.meant meant in
    x.lines_are ∙ ap (shown form x.ports x.events) outputs ∙ ap (λ es. shown form x.ports es y.outputs) (sym events) ∙ ap (λ ps. shown form ps y.events y.outputs) (sym ports)
    ∙ sym y.lines_are
