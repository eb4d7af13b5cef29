-- Domains whose numbers rise.
use Rattle.std.proofs.Common.{◌≡◌, ℕ, ◌+◌, ◌<◌, ◌≤◌, List, ◌∷◌, length, get_or, drop, subst, sym, drop-cons, add-one}
use Rattle.std.proofs.lemmas.List.{drop_all}
use Rattle.chw_base.specs.declared.index.DomId.{DomId}
use Rattle.net_rules.specs.PortsHold.{RiseWithin}

-- the domains from a place on
from_place : (domains : List DomId) (i : ℕ) (d : DomId) → i < length domains → drop i domains ≡ get_or domains i d ∷ drop (i + 1) domains
from_place domains i d l = rw (add-one, drop-cons domains i d)

-- the first of them rises, and then the others
pub first_rises : (least end : ℕ) (domains : List DomId) (i : ℕ) (d : DomId) → i < length domains → RiseWithin least end (drop i domains)
    → RiseWithin least end (get_or domains i d ∷ drop (i + 1) domains)
first_rises least end domains i d l h = subst (RiseWithin least end) (from_place domains i d l) h

-- they all do where the first does, and then the others
pub rise_from : (least end : ℕ) (domains : List DomId) (i : ℕ) (d : DomId) → i < length domains
    → RiseWithin least end (get_or domains i d ∷ drop (i + 1) domains) → RiseWithin least end (drop i domains)
rise_from least end domains i d l h = subst (RiseWithin least end) (sym (from_place domains i d l)) h

-- nothing is left
pub none_left : (least end : ℕ) (domains : List DomId) (i : ℕ) → length domains ≤ i → RiseWithin least end (drop i domains)
none_left least end domains i l = subst (RiseWithin least end) (sym (drop_all i domains l)) tt
