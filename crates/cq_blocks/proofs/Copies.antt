-- Copies of blocks.
use Rattle.std.proofs.Common.{◌≡◌, List, [], ◌∷◌, ◌++◌, length, arith}
use Rattle.std.specs.Prelude.{Vec}
use Rattle.std.specs.List.{AllZip}
use Rattle.std.proofs.lemmas.Slice.Zip.{AllZip-long}
use Rattle.cq_blocks.specs.Blocks.{elements, lists_of, AreFilled}

zip-append : {X : Type 0} (R : X → X → Type 0) (ks bs cs ds : List X) → AllZip R ks bs → AllZip R cs ds → AllZip R (ks ++ cs) (bs ++ ds)
zip-append R [] [] cs ds f g = g
zip-append R [] (b ∷ bs) cs ds f g = absurd f
zip-append R (a ∷ ks) [] cs ds f g = absurd f
zip-append R (a ∷ ks) (b ∷ bs) cs ds f g = (f.0, zip-append R ks bs cs ds f.1 g)

module _ {X Z : Type 0} (R : X → X → Type 0) where
  abbrev Copies : List (Vec X Z) → List (Vec X Z) → Type 0
  Copies vs ws = AllZip (λ (v w : Vec X Z). AllZip R v.items w.items × (w.len ≡ v.len)) vs ws

  pub copied : (vs ws : List (Vec X Z)) → Copies vs ws → AllZip R (elements (lists_of vs)) (elements (lists_of ws))
  copied [] [] f = tt
  copied [] (w ∷ ws) f = absurd f
  copied (v ∷ vs) [] f = absurd f
  copied (v ∷ vs) (w ∷ ws) f = zip-append R v.items w.items (elements (lists_of vs)) (elements (lists_of ws)) f.0.0 (copied vs ws f.1)

  pub copied-filled : (vs ws : List (Vec X Z)) → Copies vs ws → AreFilled (lists_of vs) → AreFilled (lists_of ws)
  copied-filled [] [] f g = tt
  copied-filled [] (w ∷ ws) f g = absurd f
  copied-filled (v ∷ vs) [] f g = absurd f
  copied-filled (v ∷ vs) (w ∷ ws) f g = (omega (arith, AllZip-long R v.items w.items f.0.0, g.0), copied-filled vs ws f.1 g.1)

  pub copied-length : (vs ws : List (Vec X Z)) → Copies vs ws → length (elements (lists_of ws)) ≡ length (elements (lists_of vs))
  copied-length vs ws f = AllZip-long R (elements (lists_of vs)) (elements (lists_of ws)) (copied vs ws f)
