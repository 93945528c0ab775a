use Rattle.std.proofs.Common.{◌≡◌, refl, sym}
use Rattle.c11_mograph.proofs.Chains.{added_last}
use Rattle.c11_mograph.proofs.Found.{placed, tracks_of, stands_with}
use Rattle.c11_mograph.proofs.Own.{own_ordered, own_cell, previous_linked, no_previous_linked}
use Rattle.c11_mograph.proofs.Owning.{head_leads_on, own_longer}
use Rattle.c11_mograph.proofs.graph.Graph.add.Goals as goal

pub returns-in-Some-clause-stands : goal.returns-in-Some-clause-stands
returns-in-Some-clause-stands c = λ made stands can.
    let is = sym (c.in-Some.ensures made stands) in
    let placed_now = c.place_store.ensures.stands made stands can in
    let mine = placed _ _ placed_now _ (λ t. t.thread ≡ t.thread) (added_last made.stores _ (λ t. t.thread ≡ t.thread) refl) in
    let tracks = previous_linked _ made _ _ is (c.link_all.ensures.tracks _ placed_now (λ h r chain. head_leads_on made stands.well _ can h r chain stands.own) (own_cell made stands.well _ can _ is) (own_ordered made stands.well _ can _ is)) in
    stands_with _ _ tracks (own_longer made stands.well _ can mine.0 mine.1.0 mine.1.1 tracks.well (placed _ made (tracks_of _ made stands)) stands.own)

pub returns-in_default-clause-stands : goal.returns-in_default-clause-stands
returns-in_default-clause-stands c = λ made stands can.
    let is = sym (c.in_default.ensures made stands) in
    let placed_now = c.place_store.ensures.stands made stands can in
    let mine = placed _ _ placed_now _ (λ t. t.thread ≡ t.thread) (added_last made.stores _ (λ t. t.thread ≡ t.thread) refl) in
    let tracks = no_previous_linked _ made _ is placed_now in
    stands_with _ _ tracks (own_longer made stands.well _ can mine.0 mine.1.0 mine.1.1 tracks.well (placed _ made (tracks_of _ made stands)) stands.own)
