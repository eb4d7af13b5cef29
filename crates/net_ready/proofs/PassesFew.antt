-- Passes come to an end: from one on, they give what they know.
use Rattle.std.proofs.Common.{◌≡◌, ℕ, zero, suc, ◌<◌, ◌≤◌, Bool, true, false, arith, List, [], refl}
use Rattle.std.specs.Prelude.{nat_lt}
use Rattle.std.proofs.lemmas.Bool.{ltb-true, ltb-false}
use Rattle.chw_base.specs.declared.index.WireId.{WireId}
use Rattle.chw_types.specs.TypeTree.{TypeTree}
use Rattle.chw_terms.specs.declared.scene.Sort.TheVariants.{Value}
use Rattle.chw_terms.specs.TermTree.{TermTree}
use Rattle.net_built.specs.Bodies.{BlockBuilt}
use Rattle.net_built.specs.Circuits.{Ground}
use Rattle.net_built.specs.Loops.{HasNoLoops}
use Rattle.net_built.specs.Terms.{Variable}
use Rattle.net_built.specs.Wires.{Piece}
use Rattle.net_ready.specs.Drafts.{Known, BlockDrafted, Passes, no_pass, one_more, bindings_in}
use Rattle.net_ready.specs.Ready.{types_on, BlockReady}
use Rattle.net_ready.proofs.Agreed.{KnownAgree, FoundAgree, none_agree, then_known, same_found}
use Rattle.net_ready.proofs.DraftsThere.{draft_there}
use Rattle.net_ready.proofs.Settled.{built_once_settled}
use Rattle.net_ready.proofs.Stages.{stages, stages_below}
use Rattle.net_ready.proofs.TwoPasses.{blocks_agree}

module _ (ground : Ground) (scope : List Variable) (n : ℕ) (e : TermTree) (free : HasNoLoops e) where
  -- what two passes, one after the other, find
  next_agrees : (k : ℕ) (a c d : Known) (p q : Piece) (r v : List WireId) → BlockDrafted ground a 0 scope n e p r c → BlockDrafted ground c 0 scope n e q v d
      → KnownAgree k (stages 0 e free) 0 a c → FoundAgree (suc k) (stages 0 e free) c d
  next_agrees k a c d p q r v first second known = (blocks_agree first second k 0 free refl (λ l y o. refl) known).2

  -- from as many passes on as there are bindings they give what they know
  ended : (k : ℕ) (c d : Known) → bindings_in e ≤ suc k → FoundAgree (suc k) (stages 0 e free) c d → c ≡ d
  ended k c d l agree = same_found (suc k) (stages 0 e free) c d (stages_below 0 e free (suc k) (omega (arith, l))) agree

  known_agrees : (k : ℕ) (a c : Known) (p : Piece) (r : List WireId) → Passes ground scope n e k a → BlockDrafted ground a 0 scope n e p r c → KnownAgree k (stages 0 e free) 0 a c
  known_agrees zero a c p r no_pass draft = none_agree (stages 0 e free) 0 a c
  known_agrees (suc k) a c p r (one_more {known = before} {p = q} {wires = v} passes first differ) draft =
      then_known (suc k) (stages 0 e free) a c (next_agrees k before a c q p v r first draft (known_agrees k before a q v passes first))

  few_by : (k : ℕ) (a c d : Known) (p q : Piece) (r v : List WireId) → Passes ground scope n e k a → BlockDrafted ground a 0 scope n e p r c → BlockDrafted ground c 0 scope n e q v d → (c ≡ d → ⊥)
      → (b : Bool) → nat_lt (suc k) (bindings_in e) ≡ b → suc (suc k) ≤ suc (bindings_in e)
  few_by k a c d p q r v passes first second differ true h = let l : suc k < bindings_in e = ltb-true (suc k) (bindings_in e) h in omega (arith, l)
  few_by k a c d p q r v passes first second differ false h =
      let l : bindings_in e ≤ suc k = ltb-false (suc k) (bindings_in e) h in
      absurd (differ (ended k c d l (next_agrees k a c d p q r v first second (known_agrees k a c p r passes first))))

  pub passes_few : (k : ℕ) (known : Known) → Passes ground scope n e k known → k ≤ suc (bindings_in e)
  passes_few zero known no_pass = omega arith
  passes_few (suc zero) known (one_more passes draft differ) = omega arith
  passes_few (suc (suc k)) known (one_more {p = q} {wires = v} (one_more {known = a} {found = c} {p = p} {wires = r} passes first changed) second differ) =
      few_by k a c known p q r v passes first second differ (nat_lt (suc k) (bindings_in e)) refl

  module _ (vars : List TypeTree) (ready : BlockReady ground.datas Value vars e) (types : types_on scope ≡ vars) where
    -- a pass behind so many others
    record PassAt (k : ℕ) : Type 0 where
      known : Known
      found : Known
      piece : Piece
      wires : List WireId
      draft : BlockDrafted ground known 0 scope n e piece wires found
      agrees : KnownAgree k (stages 0 e free) 0 known found

    pass_at : (k : ℕ) → PassAt k
    pass_at zero =
        let d = draft_there ground [] ready 0 scope n types in
        record { known = []; found = d.2; piece = d.0; wires = d.1; draft = d.3; agrees = none_agree (stages 0 e free) 0 [] d.2 }
    pass_at (suc k) =
        let before = pass_at k in
        let a : Known = before.known in
        let c : Known = before.found in
        let d = draft_there ground c ready 0 scope n types in
        record {
          known = c;
          found = d.2;
          piece = d.0;
          wires = d.1;
          draft = d.3;
          agrees = then_known (suc k) (stages 0 e free) c d.2 (next_agrees k a c d.2 before.piece d.0 before.wires d.1 before.draft d.3 before.agrees);
        }

    pub value_there : (p : Piece) × (wires : List WireId) × BlockBuilt ground Value scope n e p wires
    value_there =
        let k : ℕ = bindings_in e in
        let before = pass_at k in
        let c : Known = before.found in
        let d = draft_there ground c ready 0 scope n types in
        (d.0, d.1, built_once_settled d.3 (ended k c d.2 (omega arith) (next_agrees k before.known c d.2 before.piece d.0 before.wires d.1 before.draft d.3 before.agrees)))
