-- A wire of a flat net and the one that it becomes have the same bits.
use Rattle.std.proofs.Common.{◌≡◌, ◌↔◌, ℕ, zero, suc, ◌<◌, Bool, List, [], ◌∷◌, length, get_or, Some, slice_get, sym, subst, ◌∙◌}
use Rattle.std.proofs.lemmas.Option.{slice_get-get_or, slice_get_within}
use Rattle.chw_base.specs.declared.index.WireId.{WireId}
use Rattle.chw_clock.specs.Histories.{FitsPorts}
use Rattle.chw_clock.specs.declared.event.Event.{Event}
use Rattle.chw_clock.specs.declared.event.Ports.{Ports}
use Rattle.netlist.specs.NetValue.{HasValue, NetValue}
use Rattle.netlist.specs.Orders.{HasNoLoop}
use Rattle.netlist.specs.Sound.{Sound}
use Rattle.netlist.specs.declared.net.Flat.{Flat}
use Rattle.netlist.proofs.OneValue.{one_value}
use Rattle.netlist.proofs.Ordered.{an_order}
use Rattle.netlist.proofs.Values.{every_value}
use Rattle.share_laws.specs.Same.Same.{itself}
use Rattle.share_laws.specs.Shares.{AllBecome, Becomes, Shares}
use Rattle.share_laws.proofs.Back.{becoming, value_back}
use Rattle.share_laws.proofs.Chosen.{KnownOnce}
use Rattle.share_laws.proofs.NoLoop.{shared_no_loop}
use Rattle.share_laws.proofs.Renamed.{become_width, proper_within}
use Rattle.share_laws.proofs.Soundness.{shared_sound}
use Rattle.share_laws.proofs.Values.{known_value}

module _ (flat shared : Flat) (sound : Sound flat) (no_loop : HasNoLoop flat) (s : Shares flat shared) where
  bits_back : (h : List Event) (w n : ℕ) (bits : List Bool) → FitsPorts flat.ports h → Becomes flat s.kept w n → NetValue shared h n bits → NetValue flat h w bits
  bits_back h w n bits fits b x = becoming flat shared sound no_loop s h w n bits fits b (λ v num. value_back flat shared sound no_loop s h n bits x fits v num)

  -- the wire that another becomes exists
  there_within : (w n : ℕ) → Becomes flat s.kept w n → n < length shared.widths
  there_within w n b =
      let by = proper_within flat sound b.by b.serves.stands.proper in
      let wide = become_width flat sound shared s b.by n (record { by = b.by; serves = record { stands = b.serves.stands; same = itself b.by by }; numbered = b.numbered }) in
      slice_get_within shared.widths n (get_or flat.widths b.by 0) (sym wide ∙ slice_get-get_or flat.widths b.by 0 by)

  bits_there : (h : List Event) (w n : ℕ) (bits : List Bool) → FitsPorts flat.ports h → Becomes flat s.kept w n → NetValue flat h w bits → NetValue shared h n bits
  bits_there h w n bits fits b x =
      let shared_is = shared_sound flat shared sound s in
      let known : KnownOnce flat =
      λ v a b k l. one_value flat sound h v a b (known_value flat sound no_loop v a k h fits) (known_value flat sound no_loop v b l h fits) in
      let order = an_order shared shared_is (shared_no_loop flat shared sound no_loop known s) in
      let shared_fits : FitsPorts shared.ports h = subst (λ (p : Ports). FitsPorts p h) (sym s.ports) fits in
      let y : HasValue shared h n = every_value shared order.0 shared_is order.1 h shared_fits n (there_within w n b) in
      let is : y.bits ≡ bits = one_value flat sound h w y.bits bits (bits_back h w n y.bits fits b y.value) x in
      subst (λ z. NetValue shared h n z) is y.value

  pub same_bits : (h : List Event) (w n : ℕ) (bits : List Bool) → FitsPorts flat.ports h → Becomes flat s.kept w n
      → NetValue flat h w bits ↔ NetValue shared h n bits
  same_bits h w n bits fits b = (λ x. bits_there h w n bits fits b x, λ x. bits_back h w n bits fits b x)

  become_at : (ws ns : List WireId) (k : ℕ) (o p : WireId) → AllBecome flat s.kept ws ns → slice_get ws k ≡ Some o → slice_get ns k ≡ Some p
      → Becomes flat s.kept o.number p.number
  become_at [] ns k o p all e f = absurd (cc)
  become_at (w ∷ ws) [] k o p all e f = absurd all
  become_at (w ∷ ws) (n ∷ ns) zero o p all e f =
      let first : w ≡ o = cc in
      let second : n ≡ p = cc in
      subst (λ (x : WireId). Becomes flat s.kept o.number x.number) second (subst (λ (x : WireId). Becomes flat s.kept x.number n.number) first all.0)
  become_at (w ∷ ws) (n ∷ ns) (suc k) o p all e f = become_at ws ns k o p all.1 e f

  pub same_outputs : (h : List Event) (k : ℕ) (o p : WireId) (bits : List Bool) → FitsPorts flat.ports h → slice_get flat.outputs k ≡ Some o
      → slice_get shared.outputs k ≡ Some p → NetValue flat h o.number bits ↔ NetValue shared h p.number bits
  same_outputs h k o p bits fits e f = same_bits h o.number p.number bits fits (become_at flat.outputs shared.outputs k o p s.outputs e f)
