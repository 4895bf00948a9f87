-- Responses: what is accepted, and that a denied one, its data all zeros, answers its request.
use Rattle.std.proofs.Common.{◌≡◌, ℕ, ◌≤◌, true, length, replicate, Ok, Result, sym, refl, ap, ◌∙◌, subst}
use lib.ListN.{length-replicate}
use Rattle.std.proofs.lemmas.Bool.{true≢false, le-leb}
use Rattle.message.specs.declared.refusal.Refusal.{Refusal}
use Rattle.message.specs.declared.operation.Operation.{Operation}
use Rattle.message.specs.declared.request.RequestHead.{RequestHead}
use Rattle.message.specs.declared.response.Denial.{Denial}
use Rattle.message.specs.declared.response.ResponseHead.{ResponseHead}
use Rattle.message.specs.declared.response.ResponseOpcode.{ResponseOpcode}
use Rattle.message.specs.Kind.{placed, measured}
use Rattle.message.specs.Response.{Response, response, response_to, response_kinds, response_length, response_checked, WholeResponse, TellsWhole, head_to, Answers}
use Rattle.message.specs.Sizes.{response_small}
use Rattle.message.proofs.Placed.{accepted_before, multiple, no_rest, placed_parts, placed_from, measured_parts, measured_from}

-- an accepted place has a legal size
pub placed_size : (opcode param size address : ℕ) (k : ResponseOpcode) → Ok k ≡ placed response_kinds opcode param size address → size ≤ 6
placed_size opcode param size address k h = response_small k size (placed_parts response_kinds opcode param size address k (sym h)).fits

accepted_whole : (a : Response) (k : ResponseOpcode) → response_checked a ≡ Ok k → WholeResponse k a
unfolding response_checked
accepted_whole a k h =
    let s = a.head.size in
    let p = accepted_before (placed response_kinds a.head.opcode a.head.param s a.head.address) (λ p. measured response_kinds p s (length a.bytes)) k h in
    let d = measured_parts response_kinds p.0 k s (length a.bytes) p.2 in
    let place = placed_parts response_kinds a.head.opcode a.head.param s a.head.address k (p.1 ∙ ap Ok d.1) in
    record {
      opcode = place.of;
      size = response_small k s place.fits;
      multiple = multiple a.head.address s place.aligned;
      whole = d.0 ∙ ap (λ m. response_length m s) d.1;
    }

pub whole_placed : (a : Response) (k : ResponseOpcode) → WholeResponse k a → placed response_kinds a.head.opcode a.head.param a.head.size a.head.address ≡ Ok k
whole_placed a k w =
    let s = a.head.size in
    placed_from response_kinds a.head.opcode a.head.param s a.head.address k
    (record { of = w.opcode; fits = le-leb s 6 w.size; aligned = no_rest a.head.address s w.multiple })

whole_accepted : (a : Response) (k : ResponseOpcode) → WholeResponse k a → response_checked a ≡ Ok k
unfolding response_checked
whole_accepted a k w =
    let count = measured_from response_kinds k a.head.size (length a.bytes) w.whole in
    rw (whole_placed a k w, count)

pub wholeness : (a : Response) (r : Result ResponseOpcode Refusal) → r ≡ response_checked a → TellsWhole a r
wholeness a r e k = ((λ h. accepted_whole a k (sym e ∙ h)), (λ w. e ∙ whole_accepted a k w))

zeros_answer : (o : Operation) (q : RequestHead) (d : Denial) → Answers o q (response (head_to o q true d) (replicate (response_length (response_to o) q.size) 0))
zeros_answer o q d =
    let whole = length-replicate (response_length (response_to o) q.size) 0 in
    record {
      opcode = refl;
      param = refl;
      size = refl;
      source = refl;
      address = refl;
      whole = whole;
      zeros = λ _. ap (λ n. replicate n 0) (sym whole);
      unblamed = λ f. absurd (true≢false f);
    }

pub denied_answers : (o : Operation) (q : RequestHead) (d : Denial) (h : ResponseHead) → h ≡ head_to o q true d → Answers o q (response h (replicate (response_length (response_to o) q.size) 0))
denied_answers o q d h e =
    subst (λ g. Answers o q (response g (replicate (response_length (response_to o) q.size) 0))) (sym e) (zeros_answer o q d)
