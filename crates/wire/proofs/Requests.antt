-- The beats of requests that are read, whether the first one is among them or not.
use Rattle.std.proofs.Common.{◌≡◌, ℕ, ◌*◌, ◌/◌, ◌%◌, ◌^◌, true, false, List, length, Some, Ok, refl}
use Rattle.std.proofs.lemmas.Bool.{false≢true}
use Rattle.message.specs.declared.refusal.Refusal.TheVariants as no
use Rattle.message.specs.declared.operation.Operation.{Operation}
use Rattle.message.specs.Request.{request, Legal, operation_kinds, partial}
use Rattle.message.specs.Sizes.{size_small}
use Rattle.beat.specs.declared.request.RequestBeat.{RequestBeat}
use Rattle.beat.specs.declared.width.Width.{Width}
use Rattle.beat.specs.Channel.{judged}
use Rattle.beat.specs.Lanes.{active_lanes, first_lane, per_beat}
use Rattle.beat.specs.Request.{request_beats, request_laws, lane_mask_fits}
use Rattle.beat.specs.Request as a_beat
use Rattle.beat.specs.Width.{width_bytes}
use Rattle.wire.specs.Request.{request_messages, request_owes, passed}
use Rattle.wire.specs.Request as lane_mask
use Rattle.wire.specs.Rules.{Read, Source}
use Rattle.wire.specs.Messages.{message, due, bytes_of, head_of, Carries, rules_of}
use Rattle.wire.specs.Laws.{one_fits, sound_of}
use Rattle.wire.specs.Laws as any_channel

-- a lane mask of a beat that is not refused, by the lanes of the first one
module _ (w : Width) (o : Operation) (b : RequestBeat) (room : ℕ) (c : RequestBeat) (j : judged operation_kinds request_beats (Some (a_beat.head_of b 0)) w c room ≡ Ok o) where
  fits : lane_mask_fits o (first_lane (width_bytes w) b.address) (per_beat (width_bytes w) b.size) c.mask ≡ true
  fits = passed (lane_mask_fits o (first_lane (width_bytes w) b.address) (per_beat (width_bytes w) b.size) c.mask) no.Mask (one_fits operation_kinds request_beats w o b c room j).1

  -- unless partial it is the active lanes
  pub active : partial o ≡ false → c.mask ≡ active_lanes (first_lane (width_bytes w) b.address) (per_beat (width_bytes w) b.size)
  active = lane_mask.active o (first_lane (width_bytes w) b.address) (per_beat (width_bytes w) b.size) c.mask fits

  -- it has no bit outside them
  pub covered : c.mask / 2 ^ first_lane (width_bytes w) b.address % 2 ^ per_beat (width_bytes w) b.size * 2 ^ first_lane (width_bytes w) b.address ≡ c.mask
  covered = lane_mask.covered o (first_lane (width_bytes w) b.address) (per_beat (width_bytes w) b.size) c.mask fits (partial o) refl

-- beats that are read are those of the request that they bring, which is legal
module _ (w : Width) (o : Operation) (b : RequestBeat) (bs : List RequestBeat) (xs ys : List ℕ) (r : Read (rules_of operation_kinds request_beats request_messages) w o b bs xs ys) (all : length bs ≡ due operation_kinds request_beats w o (a_beat.head_of b 0)) where
  pub brings_legal : Legal o (request (head_of operation_kinds request_beats w o (a_beat.head_of b 0) bs) (bytes_of operation_kinds request_beats w o (a_beat.head_of b 0) bs))
  brings_legal = any_channel.brings_legal operation_kinds request_beats size_small request_laws request_messages request_owes w o b bs xs ys r all

  pub brings_carried : Carries operation_kinds request_beats request_messages w o (message (head_of operation_kinds request_beats w o (a_beat.head_of b 0) bs) (bytes_of operation_kinds request_beats w o (a_beat.head_of b 0) bs)) bs
  brings_carried = any_channel.brings_carried operation_kinds request_beats size_small request_laws request_messages request_owes w o b bs xs ys r all (λ denied. absurd (false≢true denied))

  pub sound : Source (rules_of operation_kinds request_beats request_messages) w o b bs
  sound = sound_of operation_kinds request_beats size_small request_laws request_messages request_owes w o b bs xs ys (λ denied. absurd (false≢true denied)) r all
