mod AcceptedLaw
mod DifferLemmas
mod VerifyLemmas
