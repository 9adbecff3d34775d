mod PartFacts
mod PlaceFacts
mod TrailFacts
