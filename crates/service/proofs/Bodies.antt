-- The bodies of replies: none, or 2 to n bytes, n being what a port carries. Assumes nothing.
use mathlib.Core.Path.{◌≡◌, refl}
use mathlib.Core.List.{List, []}
use Prim.Native.Nat.{ℕ, ◌+◌, ◌*◌, ◌≤◌}
use native.Mathlib.Omega.{arith}
use lib.Dec.{eqb, lit≤}
use lib.ListN.{length, take}
use lib.Seq.{length-take-le}
use Rattle.std.specs.Prelude.{Option, Some, None}
use Rattle.refusals.specs.Codes.{byte_of}
use Rattle.refusals.specs.declared.codes.Code.{Code}
use Rattle.words.specs.Bytes.{bytes_of}
use Rattle.words.proofs.Bytes.{bytes_length}
use Rattle.floats.proofs.Bools.{choose}
use Rattle.modbus.specs.declared.Header.{Header}
use Rattle.replies.specs.Reply.{read_body, written_body, exception_body}
use Rattle.replies.proofs.RoundTrip.{SizedTo}
use Rattle.service.specs.Frame.{sent, refusal_body, write_body}

module _ (n : ℕ) where
  pub none_sized : SizedTo n []
  none_sized = record { least = λ h. absurd (h refl); most = omega arith }

  module _ (room : 6 ≤ n) (h : Header) (body : List ℕ) where
    sent_sized : (b : List ℕ) → SizedTo n b → SizedTo n (sent h b)
    unfolding sent
    sent_sized b l = choose (SizedTo n) (eqb h.address 0) [] b (λ e. none_sized) (λ e. l)

    pub refusal_sized : (code : ℕ) → SizedTo n (refusal_body h code)
    unfolding exception_body
    refusal_sized code = sent_sized (exception_body h.address h.function code) (record { least = λ e. lit≤ tt; most = omega arith })

    written_sized : length body ≤ n → 6 ≤ length body → SizedTo n (written_body h.function body)
    unfolding written_body
    written_sized l m =
        choose (SizedTo n) (eqb h.function 16) (take 6 body) body
        (λ e. record { least = λ f. omega (arith, length-take-le 6 body m); most = omega (arith, length-take-le 6 body m) })
        (λ e. record { least = λ f. omega arith; most = l })

    pub write_sized : (code : Option Code) → length body ≤ n → 6 ≤ length body → SizedTo n (write_body h body code)
    unfolding write_body
    write_sized None l m = sent_sized (written_body h.function body) (written_sized l m)
    write_sized (Some code) l m = refusal_sized (byte_of code)

  pub read_sized : (address m : ℕ) (words : List ℕ) → length words ≤ m → 3 + 2 * m ≤ n → SizedTo n (read_body address words)
  unfolding read_body
  read_sized address m words l k =
      let e : length (bytes_of words) ≡ 2 * length words = bytes_length words in
      record { least = λ h. omega arith; most = omega arith }
