-- A panel that restarts, negotiates and then only reads one slot's chain: what it asks of the box, and what it takes from the answers.
use Rattle.std.specs.Prelude.{◌≡◌, List, [], ◌∷◌, ◌++◌, ℕ, ◌+◌, ◌*◌, ◌≤◌, ◌<◌, length, take}
use Rattle.wire.specs.Bytes.{Bytes, le_at, part}
use Rattle.image.specs.Limits.{chain_limit}
use Rattle.image.specs.Contents.{Contents, Each}
use Rattle.image.specs.Reading.{reading, found}
use Rattle.image.specs.Held.{slot_chain}
use Rattle.rules.specs.Limits.{message_limit, certificate_layout, certificate_head, negotiate_algorithms, get_digests, get_certificate}
use Rattle.rules.specs.Limits.{certificate_code}
use Rattle.rules.specs.Header.{version_byte, code_byte, version_of}
use Rattle.rules.specs.Certificate.{slot_asked, offset_asked, length_asked}
use Rattle.rules.specs.Plain.{Shown}
use Rattle.rules.specs.declared.Negotiated.{Negotiated}
use Rattle.rules.specs.Reply.{Reply}
use Rattle.rules.specs.Reply as reply
use Rattle.theorems.specs.Runs.{Call, image_of, request_in, Held, box_next, box_said, box_run, Accepts, Restarts}

-- the panel's calls: the restarting GET_VERSION, any calls before the negotiation ends, NEGOTIATE_ALGORITHMS, GET_DIGESTS, and the reads
pub record Calls : Type 0 where
  pub version : Call
  pub early : List Call
  pub algorithms : Call
  pub digests : List Call
  pub reads : List Call

abbrev pub since_restart : Calls → List Call
since_restart s = s.early ++ (s.algorithms ∷ (s.digests ++ s.reads))

-- what a host holds after a list of calls: each gets what the last one left, as "return the state untouched" says
unfoldable pub box_after : Held → List Call → Held
box_after h [] = h
box_after h (c ∷ cs) = box_after (box_next h c) cs

-- where a box held h before the restart: what it holds then, before NEGOTIATE_ALGORITHMS, and before the reads
abbrev pub at_restart : Held → Calls → Held
at_restart h s = box_next h s.version

abbrev pub at_algorithms : Held → Calls → Held
at_algorithms h s = box_after (at_restart h s) s.early

abbrev pub at_reads : Held → Calls → Held
at_reads h s = box_after (box_next (at_algorithms h s) s.algorithms) s.digests

-- what a panel sees of a call: its request, and the box's answer as it stands in the buffer
pub record Seen : Type 0 where
  pub request : List ℕ
  pub answer : List ℕ

unfoldable pub seen : Held → List Call → List Seen
seen h [] = []
seen h (c ∷ cs) = record { request = request_in c; answer = (box_said h c).bytes } ∷ seen (box_next h c) cs

-- the reads, each with its answer
abbrev pub reads_seen : Held → Calls → List Seen
reads_seen h s = seen (at_reads h s) s.reads

-- what a panel has of a chain: the portions that it holds, joined, and how many bytes remain by the last answer
pub record View : Type 0 where
  pub held : List ℕ
  pub left : ℕ

-- before the first read a panel knows only that the slot is filled
abbrev pub nothing : View
nothing = record { held = []; left = 1 }

-- "CERTIFICATE 0x02: slot, portion at 4, remainder at 6, data"
abbrev pub portion_in : List ℕ → List ℕ
portion_in answer = part answer certificate_head (le_at 2 answer 4)

abbrev pub look_at : View → List ℕ → View
look_at v answer = record { held = v.held ++ portion_in answer; left = le_at 2 answer 6 }

unfoldable pub looked : View → List Seen → View
looked v [] = v
looked v (x ∷ xs) = looked (look_at v x.answer) xs

-- "asking at least 34 bytes"
abbrev pub asked_least : ℕ
asked_least = 34

-- paper 02, 5: "at the longest chain: 482 requests at 34 bytes"
abbrev pub reads_most : ℕ
reads_most = 482

-- a read of a slot from an offset on, under what was negotiated; the high half of Param1, Param2 and the bytes behind the layout are free
pub record IsRead (n : Negotiated) (k offset : ℕ) (r : List ℕ) : Type 0 where
  -- "a whole request of at most 4,608 bytes with the right version byte": the chosen edition's, as paper 02, 4 says
  pub whole : certificate_layout ≤ length r
  pub most : length r ≤ message_limit
  pub version : version_byte r ≡ version_of n
  -- "slot in the low half of Param1, offset at 4, length at 6"
  pub code : code_byte r ≡ get_certificate
  pub slot : slot_asked r ≡ k
  pub from : offset_asked r ≡ offset
  -- "asking at least 34 bytes"
  pub asks : asked_least ≤ length_asked r

-- "only reads one filled slot from offset 0 until no byte remains, each time at the sum of the portions it holds"
unfoldable pub OnlyReads : Negotiated → ℕ → View → List Seen → Type 0
OnlyReads n k v [] = Unit {0}
OnlyReads n k v (x ∷ xs) = (0 < v.left) × (IsRead n k (length v.held) x.request × OnlyReads n k (look_at v x.answer) xs)

abbrev pub NoNumber : Reply → Type 0
NoNumber (reply.Number n) = ⊥
NoNumber (reply.Answer n) = Unit {0}

-- the requester (the paper's panel) of demand 3's second half, on a box that held h
pub record Requester (h : Held) (image : List ℕ) (c : Contents) (k : ℕ) (s : Calls) : Type 0 where
  -- "a panel that has restarted": by an accepted GET_VERSION, "whatever state it is handed", with any image of its own
  pub restarted : Restarts h s.version
  -- "all calls since the restart lend one image": a list of bytes, as a `&[u8]` always is; c is what it holds
  pub images : Each (λ (x : Call). image_of x ≡ image) (since_restart s)
  pub octets : Bytes image
  pub holds : reading image ≡ found c
  -- "all calls since the restart .. draw no host number"
  pub numbers : Each (λ (x : Shown). NoNumber x.said.reply) (box_run (at_restart h s) (since_restart s))
  -- "and negotiated": by an accepted NEGOTIATE_ALGORITHMS. Any calls come before it: "Refused requests may come before the negotiation
  -- ends"
  pub algorithms : code_byte (request_in s.algorithms) ≡ negotiate_algorithms
  pub negotiated : Accepts (at_algorithms h s) s.algorithms
  -- "asked for the digests at most once": that GET_DIGESTS may be accepted or refused
  pub digests : Each (λ (x : Call). code_byte (request_in x) ≡ get_digests) s.digests
  pub once : length s.digests ≤ 1
  -- "and then only reads one filled slot .."
  pub filled : 0 < length (slot_chain c k)
  pub reads : OnlyReads (at_reads h s).state.negotiated k nothing (reads_seen h s)

-- what such a panel has of the slot's chain after its reads, however many it has made; that it makes another while bytes remain is its own
-- doing, and not claimed
pub record ReadOn (chain : List ℕ) (xs : List Seen) : Type 0 where
  -- "None of these reads is refused": every answer is a CERTIFICATE
  pub unrefused : Each (λ (x : Seen). code_byte x.answer ≡ certificate_code) xs
  -- "no byte remains after at most L/34 of them, rounded up": there are no more reads, and where there are so many none remains
  pub most : asked_least * length xs < length chain + asked_least
  pub enough : length chain ≤ asked_least * length xs → (looked nothing xs).left ≡ 0
  -- "the portions joined are exactly that slot's chain": its first bytes at any time, all of it when no byte remains
  pub first : (looked nothing xs).held ≡ take (length (looked nothing xs).held) chain
  pub joined : (looked nothing xs).left ≡ 0 → (looked nothing xs).held ≡ chain

-- paper 02, 5: "at the longest chain: 482 requests at 34 bytes", of the same reads
pub record ReadsMost (chain : List ℕ) (xs : List Seen) : Type 0 where
  -- no chain takes more, and after so many no byte remains
  pub most : length xs ≤ reads_most
  pub enough : length xs ≡ reads_most → (looked nothing xs).left ≡ 0
  -- the longest takes so many, where no portion has more than 34 bytes
  pub needed : length chain ≡ chain_limit → Each (λ (x : Seen). length (portion_in x.answer) ≤ asked_least) xs
      → (looked nothing xs).left ≡ 0 → length xs ≡ reads_most
