mod Labels
