use Rattle.std.proofs.Common.{ℕ, Bool, [], ◌∷◌, ◌++◌, get_or, map, ap, sym, ◌∙◌}
use Rattle.std.proofs.lemmas.List.{map_push, take_more}
use Rattle.gen_pair.proofs.Drawn.{signed_none, signed_more}
use Rattle.gen_pair.proofs.hidden.with_signs.Goals as goal

pub loop-place-init : goal.loop-place-init
loop-place-init c = record {
  places = ap (map (λ (port : ℕ × Bool). port.0)) c.new-ports.ensures;
  drawn = ap (λ ports. (ports, c.args.random.now)) c.new-ports.ensures ∙ sym (signed_none c.args.places.now c.args.random.now);
}

pub loop-place-preserved : goal.loop-place-preserved
loop-place-preserved c =
    let i = c.loop-place.place-index in
    let places = c.args.places.now in
    let ports = c.loop-place.ports in
    let first : ℕ × Bool → ℕ = λ port. port.0 in
    let more = take_more places i 0 c.loop-place-test.true in
    let port : ℕ × Bool = (get_or places i 0, c.draw_bit-inverted.result) in
    record {
      places =
          ap (map first) c.in_ok-push.ensures.ok
          ∙ map_push first ports port
          ∙ ap (λ l. l ++ get_or places i 0 ∷ []) c.loop-place.invariant.places
          ∙ sym more;
      drawn =
          ap (λ l. (l, c.draw_bit-inverted.new.random)) c.in_ok-push.ensures.ok
          ∙ signed_more places i ports c.args.random.now c.loop-place.random c.draw_bit-inverted.new.random c.draw_bit-inverted.result c.loop-place.invariant.drawn c.draw_bit-inverted.ensures;
    }
